-- When what cells hold is right for a history.
use Rattle.std.specs.Prelude.{◌≡◌, ℕ, List, length, slice_get, true, Some}
use Rattle.semantics.specs.Texts.{Range, table_of}
use Rattle.semantics.specs.Joins.{Join}
use Rattle.semantics.specs.Histories.{History}
use Rattle.growing_history.specs.Changes.{has_table}
use Rattle.cell_slots.specs.declared.slot.Slot.{Slot}
use Rattle.cell_table.specs.Stores.{Store}
use Rattle.cell_slots.specs.Slots.{Holdings, Setting, held_over, place_of, IsDeclared, IsSoundSlot}

-- a range is of the table of the output of the join that was declared at a position
pub record IsRightPlace (h : History) (at : ℕ) (range : Range) : Type 0 where
  pub join : Join
  pub declared : IsDeclared h at join
  pub table : has_table join.output (table_of range.low) ≡ true

-- what each slot holds is right, and each place is
pub record AreRight (h : History) (slots : List Slot) : Type 0 where
  pub held : (id : ℕ) (slot : Slot) → slice_get slots id ≡ Some slot → IsSoundSlot h slot
  pub placed : (id : ℕ) (slot : Slot) (at : ℕ) (range : Range) → slice_get slots id ≡ Some slot → place_of slot ≡ Some (at, range) → IsRightPlace h at range

-- a history, and what cells hold over it
pub record Contents : Type 0 where
  pub history : History
  pub cells : Holdings

-- what cells are held over: a history, and how much they may keep together
abbrev pub setting_of : History → Store → Setting
setting_of h store = record { entries = length h; room = store.limit }

-- a history, and the store of cells over it
abbrev pub contents_of : History → Store → Contents
contents_of h store = record { history = h; cells = held_over (setting_of h store) store.holdings }
