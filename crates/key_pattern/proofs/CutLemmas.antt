-- A text that is cut at its first `|`.
use Rattle.std.proofs.Common.{◌≡◌, ◌≢◌, ℕ, suc, ◌<◌, [], ◌∷◌, ◌++◌, length, get_or, Some, None, refl, ap, ◌∙◌, arith}
use Rattle.std.specs.Borrow.{Bor}
use Rattle.std.proofs.lemmas.Bool.{or_from, ne_eqb}
use Rattle.semantics.specs.Texts.{Text, bar}
use Rattle.semantics.specs.Patterns.{segments}
use Rattle.semantics.proofs.PieceLemmas.{Lacks, pieces_lacking, pieces-append}
use Rattle.key_pattern.specs.Pieces.{CutsFirst}

-- a text that has c at no place lacks it
pub lacks_from_reads : (c : ℕ) (t : Text) → ((i : ℕ) → i < length t → get_or t i 0 ≢ c) → Lacks c t
lacks_from_reads c [] h = refl
lacks_from_reads c (b ∷ bs) h = or_from _ _ (ne_eqb b c (h 0 (omega arith))) (lacks_from_reads c bs (λ i l. h (suc i) (omega arith)))

-- a text with no `|` is its only segment
pub cuts_none : (text : Text) → ((i : ℕ) → i < length text → get_or text i 0 ≢ bar) → CutsFirst text text None
cuts_none text h = let lacks = lacks_from_reads bar text h in record { parts = pieces_lacking bar text lacks; lacks = lacks }

-- what stands before the first `|` is the first segment, and what stands after it has the others
pub cuts_at : (text first : Text) (rest : Bor Text) → (text ≡ first ++ bar ∷ rest.now) × ((i : ℕ) → i < length first → get_or first i 0 ≢ bar) → CutsFirst text first (Some rest)
cuts_at text first rest h =
    let lacks = lacks_from_reads bar first h.1 in
    record { parts = ap segments h.0 ∙ pieces-append bar first rest.now lacks; lacks = lacks }
