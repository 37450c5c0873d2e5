-- Laws on the reading of a set of joins, and on the cycle that a refusal carries.
use Rattle.std.specs.Prelude.{◌≡◌, ◌↔◌, ℕ, ◌+◌, ◌<◌, List, [], ◌∷◌, length, slice_get, Contains, true, Some, MatchOption}
use Rattle.std.specs.List.{IsDistinct}
use Rattle.std.specs.Prelude.{nat_eq}
use Rattle.semantics.specs.Patterns.{overlaps}
use Rattle.semantics.specs.Joins.{Source, Join}
use Rattle.semantics.specs.Histories.{DeclaredJoin, History, declare, joins_of}
use Rattle.semantics.specs.Graphs.{Edges, IsLeastCycle, HasNoCycle}
use Rattle.semantics.specs.States.{reading}
use Rattle.semantics.specs.Verdicts.{Cause, cycle, cycle_cause, joined, verdict}

-- the joins with the numbers a and b, and a source of the first that overlaps the output of the second
pub record ReadsAt (joins : List DeclaredJoin) (a b : ℕ) : Type 0 where
  pub reader : DeclaredJoin
  pub read : DeclaredJoin
  pub reader_at : slice_get joins a ≡ Some reader
  pub read_at : slice_get joins b ≡ Some read
  pub source : Source
  pub listed : Contains reader.join.sources source
  pub meets : overlaps source.pattern read.join.output ≡ true

-- the reading has the edge from a to b exactly where a source of the join with the number a overlaps the output of the one with the number b
abbrev pub ReadingIsOverlaps : Type 0
ReadingIsOverlaps = (joins : List DeclaredJoin) (a b : ℕ) → Contains (reading joins) (a, b) ↔ ReadsAt joins a b

-- no vertex stands twice in a least cycle
abbrev pub LeastCycleIsDistinct : Type 0
LeastCycleIsDistinct = (edges : Edges) (start : ℕ) (cycle : List ℕ) → IsLeastCycle edges start cycle → IsDistinct nat_eq cycle

-- each number is that of a join of the set, and beside it stands the position of that join
abbrev pub ArePositionsOf : List DeclaredJoin → List ℕ → List ℕ → Type 0
ArePositionsOf joins [] [] = Unit {0}
ArePositionsOf joins [] (p ∷ positions) = ⊥
ArePositionsOf joins (n ∷ numbers) [] = ⊥
ArePositionsOf joins (n ∷ numbers) (p ∷ positions) =
    ((s : DeclaredJoin) × (slice_get joins n ≡ Some s) × (s.position ≡ p)) × ArePositionsOf joins numbers positions

-- the positions are those of the joins of the least cycle through the join with the number `last`, in its order, none of them twice
pub record ShowsLeastCycle (joins : List DeclaredJoin) (last : ℕ) (positions : List ℕ) : Type 0 where
  pub numbers : List ℕ
  pub is_least : IsLeastCycle (reading joins) last numbers
  pub distinct : IsDistinct nat_eq numbers
  pub in_order : ArePositionsOf joins numbers positions

-- the cause is `cycle`, and carries the least cycle through the join
pub record CarriesLeastCycle (joins : List DeclaredJoin) (last : ℕ) (cause : Cause) : Type 0 where
  pub positions : List ℕ
  pub is_cycle : cause ≡ cycle positions
  pub shows : ShowsLeastCycle joins last positions

-- there is the cause exactly where a cycle goes through the join, and it carries the least one
abbrev pub CycleCauseIsLeastCycle : Type 0
CycleCauseIsLeastCycle = (joins : List DeclaredJoin) (last : ℕ) → last < length joins →
    MatchOption (cycle_cause last joins) (HasNoCycle (reading joins) last) (CarriesLeastCycle joins last)

-- a declaration that is refused for a cycle is told no position twice, and they are those of the least cycle through the new join
abbrev pub RefusedCycleIsDistinct : Type 0
RefusedCycleIsDistinct = (j : Join) (h : History) (positions : List ℕ) → verdict (declare j) h ≡ Some (cycle positions) →
    ShowsLeastCycle (joined (joins_of h) (length h + 1) j) (length (joins_of h)) positions × IsDistinct nat_eq positions
