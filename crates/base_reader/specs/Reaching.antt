-- The joins of a set by their positions and numbers, and those that a range reaches.
use Rattle.std.specs.Prelude.{◌≡◌, ◌&&◌, ◌==◌, ℕ, ◌<◌, ◌≤◌, List, length, not, slice_get, slice_index, take, Bool, true, false, Option, Some, None, option_map}
use Rattle.semantics.specs.Texts.{Text, Range}
use Rattle.semantics.specs.Joins.{Join}
use Rattle.semantics.specs.Histories.{History, DeclaredJoin}
use Rattle.semantics.specs.States.{ranks_of}
use Rattle.layering.specs.Reached.{reaches, ReachesOne}
use Rattle.cell_slots.specs.Slots.{StandsNot}
use Rattle.join_set.specs.Sets.{Joins, AreJoins}
use Rattle.join_eval.specs.declared.between.Between.{Between}
use Rattle.join_eval.specs.declared.between.Between.TheVariants.{Steady, Bare, Other}
use Rattle.join_eval.specs.declared.reading.Changed.{Changed}
use Rattle.join_eval.specs.declared.reading.Changed.TheVariants.{Keys, All}
use Rattle.join_eval.specs.Answers.{ListsExactly, TellsBetween}

-- whether the join with a number has a rank, and a range reaches its output
abbrev pub IsReachedAt : List DeclaredJoin → ℕ → ℕ → Range → Bool → Type 0
IsReachedAt joins i rank range answer =
    (s : DeclaredJoin) → slice_get joins i ≡ Some s → answer ≡ ((slice_index (ranks_of joins) i == rank) && reaches range s)

-- whether the join with a number is another than the one with a number, and a range reaches its output
abbrev pub IsReachedBeside : List DeclaredJoin → ℕ → ℕ → Range → Bool → Type 0
IsReachedBeside joins k i range answer = (s : DeclaredJoin) → slice_get joins k ≡ Some s → answer ≡ (not (k == i) && reaches range s)

-- of the joins with the first numbers the range reaches the output of none, but perhaps of the one with a number
abbrev pub AreUnreachedBut : List DeclaredJoin → Range → ℕ → ℕ → Type 0
AreUnreachedBut joins range i upto = (k : ℕ) (s : DeclaredJoin) → k < upto → slice_get joins k ≡ Some s → (k ≡ i → ⊥) → reaches range s ≡ false

-- of all joins a range reaches the output of the one alone that was declared at a position and has a rank, or of none
pub record IsOnlyReached (joins : List DeclaredJoin) (range : Range) (at rank : ℕ) : Type 0 where
  pub place : ℕ
  pub join : Join
  pub one : ReachesOne range joins place (record { position = at; join = join })
  pub ranked : slice_index (ranks_of joins) place ≡ rank

-- the join with a number was declared at a position, or none that was stands among the joins
abbrev pub IsNumberIn : List DeclaredJoin → ℕ → Option ℕ → Type 0
IsNumberIn joins at None = StandsNot joins at
IsNumberIn joins at (Some i) = option_map (λ s. s.position) (slice_get joins i) ≡ Some at

-- the join was declared at a position and stands among joins, or none that was declared there does
abbrev pub IsJoinIn : List DeclaredJoin → ℕ → Option Join → Type 0
IsJoinIn joins at None = StandsNot joins at
IsJoinIn joins at (Some j) = (place : ℕ) × (slice_get joins place ≡ Some (record { position = at; join = j }))

-- what is said of the joins between a position and the one after which these joins stand, which tell of dropped ones from a floor on
abbrev pub SaysBetween : Joins → ℕ → Range → Between → Type 0
SaysBetween joins q range answer = (h : History) (p floor : ℕ) → floor ≤ q → q ≤ p → p ≤ length h → AreJoins floor joins (take p h) → TellsBetween h q p range answer

-- what is answered of keys that were put or removed: these are listed, unless a join is declared or dropped between and the range is not bare throughout
abbrev pub AnswersKeys : List Text → Between → Changed → Type 0
AnswersKeys keys Steady answer = ListsExactly keys answer
AnswersKeys keys Bare answer = ListsExactly keys answer
AnswersKeys keys Other (Keys listed) = ⊥
AnswersKeys keys Other All = Unit {0}

-- whether it is known which keys changed, where this is so of the joins
abbrev pub is_known : Between → Bool
is_known Steady = true
is_known Bare = true
is_known Other = false
