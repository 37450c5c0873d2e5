-- The joins whose outputs a range reaches, and what they give in it.
use Rattle.std.specs.Prelude.{◌≡◌, ℕ, List, [], ◌<◌, filter, fold, slice_get, slice_index, Bool, Some, None, is_some}
use Rattle.semantics.specs.Texts.{Table, Range, pairs_within}
use Rattle.semantics.specs.Histories.{DeclaredJoin}
use Rattle.semantics.specs.Outputs.{out}
use Rattle.semantics.specs.States.{ranks_of, of_rank, merged}
use Rattle.key_ranges.specs.Containing.{bind_range}

-- whether a range reaches the output of a join: there are slots that all its keys share that fit the output; where there are none, no key of the range fits it
abbrev pub reaches : Range → DeclaredJoin → Bool
reaches range s = is_some (bind_range s.join.output range)

-- the joins of a rank whose outputs a range reaches, in order of position
abbrev pub reached : Range → ℕ → List DeclaredJoin → List DeclaredJoin
reached range r joins = filter (reaches range) (of_rank r joins)

-- the range reaches no output of a join below a rank
abbrev pub ReachesNoneBelow : Range → ℕ → List DeclaredJoin → Type 0
ReachesNoneBelow range rank joins = (r : ℕ) → r < rank → reached range r joins ≡ []

-- of all joins the range reaches the output of the one at a place alone
pub record ReachesOne (range : Range) (joins : List DeclaredJoin) (place : ℕ) (s : DeclaredJoin) : Type 0 where
  pub stands : slice_get joins place ≡ Some s
  pub alone : (other : ℕ) (t : DeclaredJoin) → slice_get joins other ≡ Some t → (other ≡ place → ⊥) → bind_range t.join.output range ≡ None

-- what a join makes of a table, in a range
abbrev pub part_of : Range → Table → DeclaredJoin → Table
part_of range table s = pairs_within range (out s.join table)

-- pairs, merged with what joins make of a table in a range, join after join
abbrev pub with_parts : Range → List DeclaredJoin → Table → Table → Table
with_parts range joins table pairs = fold (λ t s. merged t (part_of range table s)) pairs joins

-- the join stands among the joins, with this rank
pub record StandsWithRank (joins : List DeclaredJoin) (r : ℕ) (s : DeclaredJoin) : Type 0 where
  pub place : ℕ
  pub stands : slice_get joins place ≡ Some s
  pub ranked : slice_index (ranks_of joins) place ≡ r
