-- What calls over the cells do.
use Rattle.std.specs.Prelude.{◌≡◌, ℕ, ◌+◌, ◌≤◌, List, [], ◌∷◌, length, slice_get, Option, Some, None}
use Rattle.semantics.specs.Histories.{History}
use Rattle.kept_ranges.specs.Sound.{KeptRange}
use Rattle.evict_book.specs.Books.{Used}
use Rattle.cell_slots.specs.declared.slot.Slot.{Slot}
use Rattle.cell_slots.specs.declared.slot.Slot.TheVariants.{Lent, Held}
use Rattle.cell_slots.specs.Slots.{Holdings, with_slot, IsRightFor}
use Rattle.cell_table.specs.Moves.{settled_all}
use Rattle.scan_core.specs.Rights.{Contents}

-- the cell with a number holds a kept range of the join that was declared at a position
abbrev pub HoldsAt : List Slot → ℕ → ℕ → KeptRange → Type 0
HoldsAt slots id at s = slice_get slots id ≡ Some (Held at s)

-- it holds some
pub record IsHeldAt (slots : List Slot) (id : ℕ) : Type 0 where
  pub at : ℕ
  pub state : KeptRange
  pub held : HoldsAt slots id at state

-- a number of no cell, or of one that holds nothing
abbrev pub HoldsNothing : List Slot → ℕ → Type 0
HoldsNothing slots id = (at : ℕ) (s : KeptRange) → HoldsAt slots id at s → ⊥

-- what a cell holds is taken out, and is right; its slot keeps the place
pub record IsTakenOut (h : History) (id : ℕ) (before after : Holdings) (at : ℕ) (s : KeptRange) : Type 0 where
  pub held : HoldsAt before.slots id at s
  pub right : IsRightFor h at s
  pub lent : after ≡ with_slot id (Lent at s.range) before

-- it is, or there is nothing and nothing changes
abbrev pub IsTaken : History → ℕ → Holdings → Holdings → Option (ℕ × KeptRange) → Type 0
IsTaken h id before after None = HoldsNothing before.slots id × (after ≡ before)
IsTaken h id before after (Some taken) = IsTakenOut h id before after taken.0 taken.1

-- where one cell alone was used, and what it holds may be kept by itself, it is as it was
abbrev pub KeepsLast : Contents → List Slot → Type 0
KeepsLast before after = (id at : ℕ) (s : KeptRange) → before.cells.used ≡ id ∷ [] → HoldsAt before.cells.slots id at s → length s.kept.rows + 1 ≤ before.cells.setting.room → HoldsAt after id at s

-- the cells that were used were settled, one after another, by a book of what may be kept together: each is told to it, and those are free that have to go then
pub record IsSettled (before after : Holdings) : Type 0 where
  pub book : Used
  pub is : after.slots ≡ (settled_all before.used (record { holdings = before; limit = before.setting.room; book = book })).holdings.slots
