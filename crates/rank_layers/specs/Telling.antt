-- What is said of what changed in the outputs of joins.
use Rattle.std.specs.Prelude.{◌≡◌, ℕ, List, map, slice_get, Contains, true, Option, Some}
use Rattle.std.specs.List.{AllByRecursion}
use Rattle.std.specs.List.Sorted.{IsStrictlySortedBy}
use Rattle.semantics.specs.Texts.{Text, text_cmp, Range, within}
use Rattle.semantics.specs.Joins.{Join}
use Rattle.semantics.specs.Histories.{History, DeclaredJoin}
use Rattle.layering.specs.Parts.{IsWithin, JoinTo}
use Rattle.layering.specs.Standing.{SameOutput}
use Rattle.join_eval.specs.declared.reading.Changed.{Changed}
use Rattle.join_eval.specs.declared.reading.Changed.TheVariants.{Keys, All}
use Rattle.join_eval.specs.declared.reading.Changes.{Changes}
use Rattle.join_eval.specs.declared.reading.Changes.TheVariants.{Listed, Unlisted}
use Rattle.join_eval.specs.Answers.{change_keys}
use Rattle.kept_ranges.specs.Sound.{KeptRange}
use Rattle.range_state.specs.Since.{is_unknown_since}
use Rattle.cell_slots.specs.Serving.{IsCaughtUp, IsPast}
use Rattle.cell_slots.specs.declared.slot.Part.{Part}
use Rattle.cell_slots.specs.declared.slot.Slot.{Slot}
use Rattle.cell_slots.specs.declared.slot.Slot.TheVariants.{Held}

-- keys of a range, ascending, each once, among which is every key of the range at which a join's output is not the same at all positions from q to p
pub record ListsJoin (h : History) (q p rank : ℕ) (j : Join) (range : Range) (keys : List Text) : Type 0 where
  pub ascend : IsStrictlySortedBy text_cmp keys
  pub inside : AllByRecursion (λ key. within range key ≡ true) keys
  pub complete : (key : Text) → within range key ≡ true → (Contains keys key → ⊥) → SameOutput h q p rank key j

-- keys are listed so, or it is not known which
abbrev pub TellsJoin : History → ℕ → ℕ → ℕ → Join → Range → Changed → Type 0
TellsJoin h q p rank j range (Keys keys) = ListsJoin h q p rank j range keys.items
TellsJoin h q p rank j range All = Unit {0}

-- keys of a range, ascending, each once, among which are given keys, and every key of the range at which the output of some of the joins is not the same at all positions from q to p
pub record ListsAdded (h : History) (q p rank : ℕ) (range : Range) (joins : List DeclaredJoin) (given keys : List Text) : Type 0 where
  pub ascend : IsStrictlySortedBy text_cmp keys
  pub inside : AllByRecursion (λ key. within range key ≡ true) keys
  pub keeps : (key : Text) → Contains given key → Contains keys key
  pub complete : (key : Text) → within range key ≡ true → (Contains keys key → ⊥) → AllByRecursion (λ s. SameOutput h q p rank key s.join) joins

-- keys are listed so, or it is not known which
abbrev pub AddsChanges : History → ℕ → ℕ → ℕ → Range → List DeclaredJoin → List Text → Changed → Type 0
AddsChanges h q p rank range joins given (Keys keys) = ListsAdded h q p rank range joins given keys.items
AddsChanges h q p rank range joins given All = Unit {0}

-- changes of keys that are listed so, or it is not known which
abbrev pub AddsTold : History → ℕ → ℕ → ℕ → Range → List DeclaredJoin → List Text → Changes → Type 0
AddsTold h q p rank range joins given (Listed changes) = ListsAdded h q p rank range joins given (change_keys changes.items)
AddsTold h q p rank range joins given Unlisted = Unit {0}

-- a kept range can tell of a part at a position: it was kept with the join's rank, does not stand past the position, and holds the part
pub record CanTell (rank p : ℕ) (part : Range) (s : KeptRange) : Type 0 where
  pub ranked : s.rank ≡ rank
  pub upto : IsPast p s → ⊥
  pub whole : IsWithin part s.range

-- a slot holds, for the join that was declared at a position, what became of a kept range when it was advanced to p
pub record HoldsCaughtUp (p at : ℕ) (old : KeptRange) (slot : Option Slot) : Type 0 where
  pub after : KeptRange
  pub holds : slot ≡ Some (Held at after)
  pub advanced : IsCaughtUp p old after

-- ---- where it is not known what changed

-- what the cell of a part holds does not know what changed in it since a position: if it could tell of the part, and its slot holds something of the join afterwards, that does not know it
abbrev pub IsUnknownSince : List Slot → List Slot → ℕ → ℕ → ℕ → ℕ → Part → Type 0
IsUnknownSince before after at rank p since part = (id : ℕ) (held kept : KeptRange) → part.cell ≡ Some id → slice_get before id ≡ Some (Held at held) → CanTell rank p part.range held → slice_get after id ≡ Some (Held at kept) →
    is_unknown_since since part.range kept kept.position ≡ true

-- of one of some things it is not known, as the reader stands that was asked of it: it went on to there from before, and stands after the answer
pub record IsUnknown {S A : Type 0} (left : S → S → Type 0) (unknown : S → S → A → Type 0) (before after : S) (things : List A) : Type 0 where
  pub thing : A
  pub listed : Contains things thing
  pub asked : S
  pub on : left before asked
  pub is : unknown asked after thing

-- so it is of one of the parts into which a range falls
pub record IsUnknownIn {S A : Type 0} (range_of : A → Range) (left : S → S → Type 0) (unknown : S → S → A → Type 0) (before after : S) (range : Range) : Type 0 where
  pub parts : List A
  pub join : JoinTo range (map range_of parts)
  pub of_one : IsUnknown left unknown before after parts
