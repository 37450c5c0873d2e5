-- How the calls of a table of cells change what it holds.
use Rattle.std.specs.Prelude.{◌≡◌, ◌⊎◌, ℕ, ◌+◌, ◌^◌, ◌<◌, ◌≤◌, ◌==◌, List, [], ◌∷◌, length, take, slice_get, true, Option, Some, None, if◌then◌else◌}
use Rattle.semantics.specs.Texts.{Range}
use Rattle.semantics.specs.Joins.{Join}
use Rattle.key_ranges.specs.Ranges.{is_open}
use Rattle.layering.specs.Parts.{IsWithin}
use Rattle.kept_ranges.specs.Sound.{KeptRange}
use Rattle.range_state.specs.Held.{forgotten}
use Rattle.cell_slots.specs.Serving.{IsPast}
use Rattle.evict_book.specs.Books.{left_of, victims_of, with_use}
use Rattle.cell_slots.specs.declared.slot.Slot.{Slot}
use Rattle.cell_slots.specs.declared.slot.Slot.TheVariants.{Free, Lent, Held}
use Rattle.cell_slots.specs.declared.slot.Part.{Part}
use Rattle.cell_slots.specs.Slots.{Holdings, HasFree, with_lent}
use Rattle.cell_table.specs.Stores.{Store, with_book, with_slot_in, without_cell}

-- ---- reserving

-- the slot with a number, which was free, holds a part of a range that is not empty, for which nothing is kept yet
pub record IsReserved (before after : List Slot) (id at rank : ℕ) (j : Join) (range : Range) : Type 0 where
  pub part : Range
  pub inside : IsWithin part range
  pub not_empty : is_open part ≡ true
  pub free : slice_get before id ≡ Some Free
  pub holds : slice_get after id ≡ Some (Held at (forgotten j rank part))

-- parts of a range are reserved: each slot is as it was, or is reserved for one of them
pub record ReservesParts (before after : Holdings) (at rank : ℕ) (j : Join) (range : Range) : Type 0 where
  pub same_count : length after.slots ≡ length before.slots
  pub same_used : after.used ≡ before.used
  pub same_setting : after.setting ≡ before.setting
  pub each : (id : ℕ) → (slice_get after.slots id ≡ slice_get before.slots id) ⊎ IsReserved before.slots after.slots id at rank j range

-- a part gets a cell: it keeps the one that it has; else a free cell is reserved for it, and it gets none exactly where none is free
abbrev pub GetsCell : ℕ → ℕ → Join → Range → Store → Option ℕ → Option ℕ → Store → Type 0
GetsCell at rank j part before (Some id) cell after = (cell ≡ Some id) × (after ≡ before)
GetsCell at rank j part before None (Some id) after = (slice_get before.holdings.slots id ≡ Some Free) × (after ≡ with_slot_in id (Held at (forgotten j rank part)) before)
GetsCell at rank j part before None None after = (HasFree before.holdings.slots → ⊥) × (after ≡ before)

-- a part gets a cell, and keeps its range
pub record GetsCellAs (at rank : ℕ) (j : Join) (before : Store) (part made : Part) (after : Store) : Type 0 where
  pub same_range : made.range ≡ part.range
  pub cell : GetsCell at rank j part.range before part.cell made.cell after

-- parts get cells, one after another
abbrev pub GetCells : ℕ → ℕ → Join → Store → List Part → List Part → Store → Type 0
GetCells at rank j before [] [] after = after ≡ before
GetCells at rank j before (part ∷ parts) (got ∷ made) after = (between : Store) × GetsCellAs at rank j before part got between × GetCells at rank j between parts made after
GetCells at rank j before parts made after = ⊥

-- ---- lending

-- a kept range with a rank: as it is where it has this rank, else made anew, with nothing kept
abbrev pub at_rank : ℕ → KeptRange → KeptRange
at_rank rank s = if s.rank == rank then s else forgotten s.join rank s.range

-- the kept range that is made anew for another rank than its own
abbrev pub anew_for : ℕ → KeptRange → Option KeptRange
anew_for rank s = if s.rank == rank then None else Some (forgotten s.join rank s.range)

-- a slot holds a kept range, of the join at a position, that may be lent for a part: its rank is not above a rank, it does not stand past p, and the part lies within it
pub record MayLend (slot : Option Slot) (at rank p : ℕ) (part : Range) (s : KeptRange) : Type 0 where
  pub held : slot ≡ Some (Held at s)
  pub least : s.rank ≤ rank
  pub upto : IsPast p s → ⊥
  pub whole : IsWithin part s.range

-- the kept range of the slot with a number is lent, with a rank
pub record IsLent (before after : Holdings) (id at rank p : ℕ) (part : Range) (state : KeptRange) : Type 0 where
  pub was : KeptRange
  pub might : MayLend (slice_get before.slots id) at rank p part was
  pub given : state ≡ at_rank rank was
  pub lent : after ≡ with_lent id at was.range before

-- ---- evicting

-- a slot holds a kept range
pub record IsHeld (slots : List Slot) (id : ℕ) : Type 0 where
  pub at : ℕ
  pub state : KeptRange
  pub held : slice_get slots id ≡ Some (Held at state)

-- what is kept weighs more than a limit alone
pub record IsTooHeavy (limit : ℕ) (s : KeptRange) : Type 0 where
  pub rows : limit < length s.kept.rows + 1
  pub most : limit < 2 ^ 48

-- the slot with a number held a kept range, and is free
pub record IsEvicted (before after : List Slot) (id : ℕ) : Type 0 where
  pub was : IsHeld before id
  pub free : slice_get after id ≡ Some Free

-- kept ranges are evicted: each slot is as it was, or held one and is free
pub record Evicts (before after : List Slot) : Type 0 where
  pub same_count : length after ≡ length before
  pub each : (id : ℕ) → (slice_get after id ≡ slice_get before id) ⊎ IsEvicted before after id

-- ---- settling

-- by what its slot holds, a cell is free, and the book knows it no more; where it holds no kept range nothing changes
abbrev pub freed_by : Option Slot → ℕ → Store → Store
freed_by None id before = before
freed_by (Some Free) id before = before
freed_by (Some (Lent at range)) id before = before
freed_by (Some (Held at s)) id before = without_cell id before

-- so it is of the cell with a number
abbrev pub freed : ℕ → Store → Store
freed id before = freed_by (slice_get before.holdings.slots id) id before

-- and of cells, one after another
abbrev pub freed_all : List ℕ → Store → Store
freed_all [] before = before
freed_all (id ∷ ids) before = freed_all ids (freed id before)

-- the book is told that a cell was used, with so many rows; the cells are free that have to go then
abbrev pub weighed : ℕ → ℕ → Store → Store
weighed id rows before = freed_all (victims_of before.limit (with_use id rows before.book)) (with_book (left_of before.limit (with_use id rows before.book)) before)

-- by what its slot holds, a cell that was used is settled: the book is told of its rows; where it holds no kept range nothing changes
abbrev pub settled_by : Option Slot → ℕ → Store → Store
settled_by None id before = before
settled_by (Some Free) id before = before
settled_by (Some (Lent at range)) id before = before
settled_by (Some (Held at s)) id before = weighed id (length s.kept.rows) before

-- so it is of the cell with a number
abbrev pub settled : ℕ → Store → Store
settled id before = settled_by (slice_get before.holdings.slots id) id before

-- and of cells, one after another
abbrev pub settled_all : List ℕ → Store → Store
settled_all [] before = before
settled_all (id ∷ ids) before = settled_all ids (settled id before)

-- of the cells that were used the first ones are settled
pub record SettlesFirst (before after : Store) : Type 0 where
  pub count : ℕ
  pub is : after ≡ settled_all (take count before.holdings.used) before

-- ---- taking out

-- what the slot with a number holds is taken out, and the slot keeps the place
pub record IsTakenOut (before after : Store) (id at : ℕ) (s : KeptRange) : Type 0 where
  pub held : slice_get before.holdings.slots id ≡ Some (Held at s)
  pub lent : after ≡ with_slot_in id (Lent at s.range) before

-- it is, or the slot holds nothing and nothing changes
abbrev pub TakesOut : ℕ → Store → Store → Option (ℕ × KeptRange) → Type 0
TakesOut id before after None = (IsHeld before.holdings.slots id → ⊥) × (after ≡ before)
TakesOut id before after (Some taken) = IsTakenOut before after id taken.0 taken.1
