-- Laws on the joins whose outputs a range reaches.
use Rattle.std.specs.Prelude.{◌≡◌, ◌<◌, ◌↔◌, ℕ, List, [], ◌∷◌, filter, map, zip, ◌&&◌, ◌==◌, slice_get, slice_index, Contains, true, false, Some, None}
use Rattle.std.specs.List.{AllByRecursion}
use Rattle.semantics.specs.Texts.{Text, Table, is_range, Range, pairs_within, within}
use Rattle.semantics.specs.Patterns.{fits}
use Rattle.semantics.specs.Joins.{Join, is_join}
use Rattle.semantics.specs.Histories.{History, DeclaredJoin, joins_of}
use Rattle.semantics.specs.Outputs.{out}
use Rattle.semantics.specs.States.{ranks_of, of_rank}
use Rattle.key_ranges.specs.Containing.{bind_range}
use Rattle.growing_history.specs.Changes.{is_bare}
use Rattle.growing_history.specs.Entered.{HasEntered, HasRank}
use Rattle.layering.specs.Reached.{reaches, reached, ReachesNoneBelow, ReachesOne, StandsWithRank}

-- no key of a range fits the output of a join that the range does not reach
abbrev pub UnreachedFitsNot : Type 0
UnreachedFitsNot = (j : Join) (range : Range) (key : Text) → is_join j ≡ true → is_range range.low range.high ≡ true →
    bind_range j.output range ≡ None → within range key ≡ true → fits j.output key ≡ false

-- and the join gives nothing in the range, whatever the table
abbrev pub UnreachedGivesNothing : Type 0
UnreachedGivesNothing = (j : Join) (range : Range) (table : Table) → is_join j ≡ true → is_range range.low range.high ≡ true →
    bind_range j.output range ≡ None → pairs_within range (out j table) ≡ []

-- a range that is bare reaches no output
abbrev pub BareReachesNone : Type 0
BareReachesNone = (joins : List DeclaredJoin) (range : Range) → AllByRecursion (λ s. is_join s.join ≡ true) joins → is_range range.low range.high ≡ true →
    is_bare range joins ≡ true → AllByRecursion (λ s. bind_range s.join.output range ≡ None) joins

-- the joins of a rank are those that stand with it
abbrev pub OfRankStand : Type 0
OfRankStand = (joins : List DeclaredJoin) (r : ℕ) (s : DeclaredJoin) → Contains (of_rank r joins) s ↔ StandsWithRank joins r s

-- the joins of a rank that a range reaches are those that stand with it and that the range reaches
abbrev pub ReachedStand : Type 0
ReachedStand = (joins : List DeclaredJoin) (range : Range) (r : ℕ) (s : DeclaredJoin) →
    Contains (reached range r joins) s ↔ (StandsWithRank joins r s × (reaches range s ≡ true))

-- a range reaches no output below a rank exactly where it reaches that of no join that stands with a rank below it
abbrev pub ReachesNoneBelowEach : Type 0
ReachesNoneBelowEach = (joins : List DeclaredJoin) (range : Range) (rank : ℕ) →
    ReachesNoneBelow range rank joins ↔
    ((place : ℕ) (s : DeclaredJoin) → slice_get joins place ≡ Some s → slice_index (ranks_of joins) place < rank → bind_range s.join.output range ≡ None)

-- they are picked from the joins beside their ranks
abbrev pub ReachedArePicked : Type 0
ReachedArePicked = (joins : List DeclaredJoin) (range : Range) (r : ℕ) →
    reached range r joins ≡ map (λ p. p.1) (filter (λ p. p.0 == r && reaches range p.1) (zip (ranks_of joins) joins))

-- where a range reaches one output alone, it is the one join of its rank that the range reaches
abbrev pub OneReachedInRank : Type 0
OneReachedInRank = (joins : List DeclaredJoin) (range : Range) (place : ℕ) (s : DeclaredJoin) → ReachesOne range joins place s → reaches range s ≡ true →
    reached range (slice_index (ranks_of joins) place) joins ≡ s ∷ []

-- and none of another rank is reached
abbrev pub NoneReachedInOthers : Type 0
NoneReachedInOthers = (joins : List DeclaredJoin) (range : Range) (place r : ℕ) (s : DeclaredJoin) → ReachesOne range joins place s →
    (slice_index (ranks_of joins) place ≡ r → ⊥) → reached range r joins ≡ []

-- no join has a rank above 7
abbrev pub NoneAboveSeven : Type 0
NoneAboveSeven = (h : History) (r : ℕ) → HasEntered h → 7 < r → of_rank r (joins_of h) ≡ []

-- a join that stands with a rank has that rank
abbrev pub StandsHasRank : Type 0
StandsHasRank = (joins : List DeclaredJoin) (r : ℕ) (s : DeclaredJoin) → StandsWithRank joins r s → HasRank joins s.join r
