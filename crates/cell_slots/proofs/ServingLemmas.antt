-- What kept ranges of the same subject give.
use Rattle.std.proofs.Common.{◌≡◌, ℕ, ◌≤◌, Bool, true, false, cond, List, [], ◌∷◌, length, take, refl, ap, ◌∙◌}
use Rattle.semantics.specs.Texts.{Text, Table, Range, within, pairs_within}
use Rattle.semantics.specs.Histories.{History, IsPrefix}
use Rattle.semantics.specs.Outputs.{out}
use Rattle.semantics.specs.States.{below}
use Rattle.growing_history.proofs.PrefixLemmas.{take_prefix}
use Rattle.kept_ranges.specs.Sound.{KeptRange}
use Rattle.range_state.specs.Ready.{HasSameSubject}
use Rattle.cell_slots.specs.Serving.{output_within}

-- kept ranges of one subject give the same over a list and a longer one
pub same_output : (old new : KeptRange) (h more : History) (p : ℕ) (piece : Range) → HasSameSubject old new → p ≤ length h → IsPrefix h more →
    output_within new more p piece ≡ output_within old h p piece
same_output old new h more p piece same less prefix i =
    pairs_within piece (pairs_within (same.range i) (out (same.join i) (below (take_prefix p h more less prefix i) (same.rank i))))

twice_by : (range : Range) (e : Text × Text) (es : Table) (b : Bool) → within range e.0 ≡ b → pairs_within range (pairs_within range es) ≡ pairs_within range es →
    pairs_within range (cond b (e ∷ pairs_within range es) (pairs_within range es)) ≡ cond b (e ∷ pairs_within range es) (pairs_within range es)
twice_by range e es true is h = ap (λ b. cond b (e ∷ pairs_within range (pairs_within range es)) (pairs_within range (pairs_within range es))) is ∙ ap (λ t. e ∷ t) h
twice_by range e es false is h = h

-- of the pairs in a range all are in it
pub within_again : (range : Range) (table : Table) → pairs_within range (pairs_within range table) ≡ pairs_within range table
within_again range [] = refl
within_again range (e ∷ es) = twice_by range e es (within range e.0) refl (within_again range es)
