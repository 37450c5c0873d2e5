-- Laws on what stands below a rank, in a range.
use Rattle.std.specs.Prelude.{◌≡◌, ◌+◌, ◌≤◌, ℕ, List, length, slice_get, slice_index, not, true, Some, IsPermutation}
use Rattle.semantics.specs.Texts.{Table, is_range, Range, pairs_within, pairs_where}
use Rattle.semantics.specs.Histories.{History, DeclaredJoin, joins_of, base_of, is_computed, visible}
use Rattle.semantics.specs.Outputs.{out}
use Rattle.semantics.specs.States.{ranks_of, below, merged, state}
use Rattle.growing_history.specs.Entered.{HasEntered}
use Rattle.layering.specs.Merging.{ShareNoKey}
use Rattle.layering.specs.Reached.{reached, ReachesNoneBelow, ReachesOne, with_parts}

-- below the next rank stands in a range what stands below the rank, merged with what the joins of the rank that the range reaches give in it
abbrev pub BelowNextWithin : Type 0
BelowNextWithin = (h : History) (r : ℕ) (range : Range) → HasEntered h → is_range range.low range.high ≡ true →
    pairs_within range (below h (r + 1)) ≡ with_parts range (reached range r (joins_of h)) (below h r) (pairs_within range (below h r))

-- in whichever order they come
abbrev pub BelowNextInAnyOrder : Type 0
BelowNextInAnyOrder = (h : History) (r : ℕ) (range : Range) (joins : List DeclaredJoin) → HasEntered h → is_range range.low range.high ≡ true →
    IsPermutation (reached range r (joins_of h)) joins →
    pairs_within range (below h (r + 1)) ≡ with_parts range joins (below h r) (pairs_within range (below h r))

-- the outputs of two joins that stand have no key in common, whatever the tables
abbrev pub OutputsShareNoKey : Type 0
OutputsShareNoKey = (h : History) (place other : ℕ) (s t : DeclaredJoin) (table more : Table) → HasEntered h →
    slice_get (joins_of h) place ≡ Some s → slice_get (joins_of h) other ≡ Some t → (place ≡ other → ⊥) → ShareNoKey (out s.join table) (out t.join more)

-- nor has the output of a join with what stands below its rank, or a smaller one
abbrev pub OutputIsNewBelow : Type 0
OutputIsNewBelow = (h : History) (place r : ℕ) (s : DeclaredJoin) (table : Table) → HasEntered h →
    slice_get (joins_of h) place ≡ Some s → r ≤ slice_index (ranks_of (joins_of h)) place → ShareNoKey (out s.join table) (below h r)

-- where a range reaches no output below a rank, what stands below the rank in it is what is visible
abbrev pub UnreachedIsVisible : Type 0
UnreachedIsVisible = (h : History) (rank : ℕ) (range : Range) → HasEntered h → is_range range.low range.high ≡ true →
    ReachesNoneBelow range rank (joins_of h) → pairs_within range (below h rank) ≡ pairs_within range (visible h)

-- what is visible in a range are its base pairs whose keys fit no output
abbrev pub VisibleWithin : Type 0
VisibleWithin = (h : History) (range : Range) →
    pairs_within range (visible h) ≡ pairs_where (λ key. not (is_computed (joins_of h) key)) (pairs_within range (base_of h))

-- there are at most as many as base pairs
abbrev pub VisibleAreFewer : Type 0
VisibleAreFewer = (h : History) (range : Range) → length (pairs_within range (visible h)) ≤ length (pairs_within range (base_of h))

-- where a range reaches one output alone, the state in it is what is visible, merged with what that join gives
abbrev pub OneReachedIsState : Type 0
OneReachedIsState = (h : History) (range : Range) (place : ℕ) (s : DeclaredJoin) → HasEntered h → is_range range.low range.high ≡ true →
    ReachesOne range (joins_of h) place s →
    pairs_within range (state h) ≡ merged (pairs_within range (visible h)) (pairs_within range (out s.join (below h (slice_index (ranks_of (joins_of h)) place))))

-- and has as many pairs as both
abbrev pub OneReachedLength : Type 0
OneReachedLength = (h : History) (range : Range) (place : ℕ) (s : DeclaredJoin) → HasEntered h → is_range range.low range.high ≡ true →
    ReachesOne range (joins_of h) place s →
    length (pairs_within range (state h)) ≡ length (pairs_within range (visible h)) + length (pairs_within range (out s.join (below h (slice_index (ranks_of (joins_of h)) place))))
