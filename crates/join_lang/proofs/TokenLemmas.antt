-- Texts that are cut at a byte, and the tokens of a text.
use Rattle.std.proofs.Common.{◌≡◌, ◌≢◌, ℕ, suc, ◌+◌, ◌-◌, ◌<◌, ◌≤◌, Bool, true, ◌==◌, nat_le, List, [], ◌∷◌, length, get_or, Option, Some, None, refl, ap, ◌∙◌, arith, length-append, filter, le-leb}
use Rattle.std.specs.Borrow.{Bor}
use Rattle.std.specs.List.{list_any}
use Rattle.std.proofs.lemmas.Bool.{or_from, ne_eqb, eqb-true}
use Rattle.semantics.specs.Texts.{Text}
use Rattle.semantics.specs.Patterns.{pieces}
use Rattle.semantics.proofs.PieceLemmas.{Lacks, pieces_lacking, pieces-append}
use Rattle.protocol.specs.JoinText.{Token, placed, tokens}
use Rattle.join_lang.specs.Readings.{tokens_from, with_word}
use Rattle.join_lang.specs.Cuts.{IsCut}

-- a text at each place of which another byte than c stands lacks c
pub lacks_by : (c : ℕ) (t : Text) → ((i : ℕ) → i < length t → get_or t i 0 ≢ c) → Lacks c t
lacks_by c [] h = refl
lacks_by c (b ∷ bs) h = or_from (b == c) (list_any (λ x. x == c) bs) (ne_eqb b c (h 0 (omega arith))) (lacks_by c bs (λ i l. h (suc i) (omega arith)))

-- what is left behind a cut
abbrev pub left_of : Option (Bor Text) → Text
left_of None = []
left_of (Some rest) = rest.now

-- the pieces of what is left behind a cut
abbrev pub pieces_left : ℕ → Option (Bor Text) → List Text
pieces_left c None = []
pieces_left c (Some rest) = pieces c rest.now

-- a cut gives the first piece of a text, and the text that has the others
pub pieces_cut : (c : ℕ) (t first : Text) (later : Option (Bor Text)) → IsCut c t first later → pieces c t ≡ first ∷ pieces_left c later
pieces_cut c t first None h = ap (pieces c) h.0 ∙ pieces_lacking c first h.1
pieces_cut c t first (Some rest) h = ap (pieces c) h.0 ∙ pieces-append c first rest.now h.1

-- at the offset 0 they are the tokens of the text
pub tokens_from-start : (t : Text) → tokens_from 0 t ≡ tokens t
unfolding tokens_from
tokens_from-start t = refl

-- no text has no tokens
pub tokens_from-nil : (at : ℕ) → tokens_from at [] ≡ []
unfolding tokens_from
tokens_from-nil at = refl

-- whether a token has a byte
abbrev has_byte : Token → Bool
has_byte token = nat_le 1 (length token.text)

tokens_onto : (at : ℕ) (first : Text) (ts : List Text) → filter has_byte (placed at (first ∷ ts)) ≡ with_word at first (filter has_byte (placed (at + length first + 1) ts))
tokens_onto at [] ts = refl
tokens_onto at (b ∷ bs) ts = rw (le-leb 1 (length (b ∷ bs)) (omega arith))

-- the tokens of a text are its first piece and those of what is left
pub tokens_from-cut : (at : ℕ) (t first : Text) (later : Option (Bor Text)) → IsCut 32 t first later → tokens_from at t ≡ with_word at first (tokens_from (at + (length t - length (left_of later))) (left_of later))
unfolding tokens_from
tokens_from-cut at t first None h = ap (λ ps. filter has_byte (placed at ps)) (pieces_cut 32 t first None h) ∙ tokens_onto at first []
tokens_from-cut at t first (Some rest) h =
    let long : length t ≡ length first + (length rest.now + 1) = ap length h.0 ∙ length-append first (32 ∷ rest.now) ∙ omega arith in
    let same_at : at + length first + 1 ≡ at + (length t - length rest.now) = omega arith in
    ap (λ ps. filter has_byte (placed at ps)) (pieces_cut 32 t first (Some rest) h) ∙ tokens_onto at first (pieces 32 rest.now)
    ∙ ap (λ n. with_word at first (filter has_byte (placed n (pieces 32 rest.now)))) same_at

-- what is left behind a cut is shorter
pub left_shorter : (c : ℕ) (t first : Text) (later : Option (Bor Text)) → IsCut c t first later → length (left_of later) ≤ length t - 1
left_shorter c t first None h = omega arith
left_shorter c t first (Some rest) h =
    let long : length t ≡ length first + (length rest.now + 1) = ap length h.0 ∙ length-append first (c ∷ rest.now) ∙ omega arith in
    omega arith

-- how many bytes are left behind a cut, with the byte at which it was cut
abbrev pub bytes_left : Option (Bor Text) → ℕ
bytes_left None = 0
bytes_left (Some rest) = length rest.now + 1

-- an empty text has no tokens
pub none_left : (at : ℕ) (t : Text) → (length t == 0) ≡ true → tokens_from at t ≡ []
none_left at [] h = tokens_from-nil at
none_left at (b ∷ bs) h = let none : length (b ∷ bs) ≡ 0 = eqb-true (length (b ∷ bs)) 0 h in absurd (omega arith)
