-- What is held while slots are mended.
use Rattle.std.specs.Prelude.{◌≡◌, ℕ, List, take}
use Rattle.std.specs.List.{AllByRecursion, sum_by}
use Rattle.semantics.specs.Patterns.{Slots}
use Rattle.semantics.specs.Histories.{History, joins_of}
use Rattle.semantics.specs.States.{below}
use Rattle.range_evaluation.specs.Trees.{reading_steps, tree}
use Rattle.join_eval.specs.Walks.{AreBare}
use Rattle.kept_ranges.specs.Sound.{KeptRange}
use Rattle.range_state.specs.declared.holding.Holding.{Holding}
use Rattle.range_state.specs.declared.subject.Subject.{Subject}

-- a kept range with these slots pending
abbrev pub with_pending : List Slots → KeptRange → KeptRange
with_pending pending s = record s { kept = record s.kept { pending = pending } }

-- it is held at the same position, with the same slots pending and the same groups
pub record KeepsPlace (old new : Holding) : Type 0 where
  pub position : new.position ≡ old.position
  pub pending : new.pending ≡ old.pending
  pub groups : new.groups ≡ old.groups

-- the ranges that are read under slots are bare at a position
abbrev pub AreBareFor : Subject → History → ℕ → Slots → Type 0
AreBareFor s h q slots = AreBare (joins_of (take q h)) (tree s.join slots s.range (below (take q h) s.rank))

-- so for each of some slots
abbrev pub AreAllBare : Subject → History → ℕ → List Slots → Type 0
AreAllBare s h q taken = AllByRecursion (AreBareFor s h q) taken

-- the most steps of reading what is read under slots
abbrev pub steps_for : Subject → History → ℕ → Slots → ℕ
steps_for s h q slots = reading_steps (tree s.join slots s.range (below (take q h) s.rank)) (below (take q h) s.rank)

-- so for all of some slots together
abbrev pub steps_under : Subject → History → ℕ → List Slots → ℕ
steps_under s h q taken = sum_by (steps_for s h q) taken
