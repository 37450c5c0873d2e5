-- Further laws on the state, rank by rank.
use Rattle.std.specs.Prelude.{◌≡◌, ℕ, ◌<◌, ◌≤◌, slice_get, slice_index, true, false, Some, None, IsTrue}
use Rattle.std.specs.FinMap.Entries.{is_sorted}
use Rattle.semantics.specs.Texts.{Text, text_cmp, value_at}
use Rattle.semantics.specs.Patterns.{fits}
use Rattle.semantics.specs.Histories.{History, DeclaredJoin, joins_of, is_computed, visible}
use Rattle.semantics.specs.Outputs.{out}
use Rattle.semantics.specs.States.{IsAdmissible, ranks_of, below}
use Rattle.semantics.specs.StateLaws.{DeclaresJoins}

-- the keys of what stands below each rank ascend, each once
abbrev pub BelowIsSorted : Type 0
BelowIsSorted = (h : History) (r : ℕ) → IsTrue (is_sorted text_cmp (below h r))

-- the rank of the join at a place of those that stand
abbrev pub rank_at : History → ℕ → ℕ
rank_at h place = slice_index (ranks_of (joins_of h)) place

-- the join stands at the place after a history whose joins are admissible, and the key fits its output
pub record IsOutputKey (h : History) (place : ℕ) (s : DeclaredJoin) (key : Text) : Type 0 where
  pub admissible : IsAdmissible (joins_of h)
  pub declares : DeclaresJoins h
  pub stands : slice_get (joins_of h) place ≡ Some s
  pub fits : fits s.join.output key ≡ true

-- at a key that fits the output of a join, what stands below each greater rank is what the join makes of what stands below its own
abbrev pub BelowOfOutput : Type 0
BelowOfOutput = (h : History) (place r : ℕ) (s : DeclaredJoin) (key : Text) → IsOutputKey h place s key → rank_at h place < r →
    value_at key (below h r) ≡ value_at key (out s.join (below h (rank_at h place)))

-- at such a key nothing stands below the join's rank, nor below a smaller one
abbrev pub NothingBeforeOutput : Type 0
NothingBeforeOutput = (h : History) (place r : ℕ) (s : DeclaredJoin) (key : Text) → IsOutputKey h place s key → r ≤ rank_at h place →
    value_at key (below h r) ≡ None

-- at every other key what stands below each rank is what is visible
abbrev pub BelowElsewhere : Type 0
BelowElsewhere = (h : History) (r : ℕ) (key : Text) → DeclaresJoins h → is_computed (joins_of h) key ≡ false →
    value_at key (below h r) ≡ value_at key (visible h)
