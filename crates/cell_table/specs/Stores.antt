-- What a table of cells is seen as, and how it keeps that.
use Rattle.std.specs.Prelude.{◌≡◌, ◌≢◌, ℕ, ◌<◌, ◌≤◌, List, [], length, replicate, slice_get, true, false, Contains, Some, None}
use Rattle.semantics.specs.Texts.{Text, Range, table_of}
use Rattle.key_ranges.specs.Ranges.{is_open, meets}
use Rattle.range_set.specs.declared.piece.Piece.{Piece}
use Rattle.range_set.specs.declared.piece.Piece.TheVariants.{Kept, Gap}
use Rattle.evict_book.specs.Books.{Book, Used, total_weight, without}
use Rattle.cell_slots.specs.declared.slot.Slot.{Slot}
use Rattle.cell_slots.specs.declared.slot.Slot.TheVariants.{Free}
use Rattle.cell_slots.specs.declared.slot.Part.{Part}
use Rattle.cell_slots.specs.Places.{AreKept, KeepsPlace}
use Rattle.cell_slots.specs.Slots.{Holdings, no_setting, MeetsNone, place_at, with_slot}
use Rattle.cell_table.specs.Places.{Places, held_at}

-- what cells hold, how much what they keep may weigh together, and which of them the book knows, each with what it weighs there, the least recently used first; over what else they are held is not known here
pub record Store : Type 0 where
  pub holdings : Holdings
  pub limit : ℕ
  pub book : Used

-- so many cells, which are free, of which none was used, and of which the book knows none
abbrev pub free_cells : ℕ → ℕ → Store
free_cells cells limit = record { holdings = record { slots = replicate cells Free; used = []; setting = no_setting }; limit = limit; book = [] }

-- a store whose cells hold something else
abbrev pub with_holdings : Holdings → Store → Store
with_holdings holdings before = record { holdings = holdings; limit = before.limit; book = before.book }

-- a store with another book
abbrev pub with_book : Used → Store → Store
with_book book before = record { holdings = before.holdings; limit = before.limit; book = book }

-- a store with another slot at a number
abbrev pub with_slot_in : ℕ → Slot → Store → Store
with_slot_in id slot before = with_holdings (with_slot id slot before.holdings) before

-- a store of which a cell is free, and which the book knows no more
abbrev pub without_cell : ℕ → Store → Store
without_cell id before = with_book (without id before.book) (with_slot_in id Free before)

-- a store of which no cell was used
abbrev pub unused : Store → Store
unused before = with_holdings (record { slots = before.holdings.slots; used = []; setting = before.holdings.setting }) before

-- ---- places

-- the slot with a number keeps a place
pub record HasPlace (slots : List Slot) (id : ℕ) : Type 0 where
  pub at : ℕ
  pub range : Range
  pub kept : KeepsPlace (place_at slots) id at range

-- a book knows no cell but those that keep a place
abbrev pub AreBooked : List Slot → Used → Type 0
AreBooked slots book = (e : ℕ × ℕ) → Contains book e → HasPlace slots e.0

-- each place that is kept for the join at a position is for a range of a table
abbrev pub AreOfTable : List Slot → ℕ → Text → Type 0
AreOfTable slots at name = (id : ℕ) (kept : Range) → KeepsPlace (place_at slots) id at kept → table_of kept.low ≡ name

-- a slot is free, and none with a lesser number is
pub record IsLowestFree (slots : List Slot) (id : ℕ) : Type 0 where
  pub free : slice_get slots id ≡ Some Free
  pub lowest : (other : ℕ) → other < id → slice_get slots other ≢ Some Free

-- ---- parts

-- a range is not empty, and meets no place that is kept for the join at a position
pub record IsGap (slots : List Slot) (at : ℕ) (range : Range) : Type 0 where
  pub not_empty : is_open range ≡ true
  pub apart : MeetsNone slots at range

-- a piece as a part
abbrev pub part_of : Piece ℕ → Part
part_of (Kept range id) = record { range = range; cell = Some id }
part_of (Gap range) = record { range = range; cell = None }

-- ---- how a store is kept

-- no slot below a number is free, which is at most the number of slots, and that is 65,536 at most
pub record AreSlots (slots : List Slot) (least : ℕ) : Type 0 where
  pub few : length slots ≤ 65536
  pub upto : least ≤ length slots
  pub taken : (id : ℕ) → id < least → slice_get slots id ≢ Some Free

-- the directory has just the places that slots keep; these are for ranges that are not empty, and those for one join are apart
pub record AreDirected (slots : List Slot) (places : Places) : Type 0 where
  pub listed : (id at : ℕ) (range : Range) → KeepsPlace (place_at slots) id at range → Contains (held_at places at) (range, id)
  pub kept : AreKept (place_at slots) (held_at places)
  pub not_empty : (id at : ℕ) (range : Range) → KeepsPlace (place_at slots) id at range → is_open range ≡ true
  pub apart : (id other at : ℕ) (r s : Range) → KeepsPlace (place_at slots) id at r → KeepsPlace (place_at slots) other at s → id ≢ other → meets r s ≡ false

-- a store is kept: there is a cell, the directory has the places of the slots, cells that were used are there, and the book is for these cells, knows none but those that keep a place, and what it knows weighs no more than the limit together
pub record IsStore (slots : List Slot) (used : List ℕ) (places : Places) (book : Book) : Type 0 where
  pub some : 1 ≤ length slots
  pub directed : AreDirected slots places
  pub used_are_cells : (id : ℕ) → Contains used id → id < length slots
  pub cells : book.cells ≡ length slots
  pub booked : AreBooked slots book.used
  pub fits : total_weight book.used ≤ book.limit
