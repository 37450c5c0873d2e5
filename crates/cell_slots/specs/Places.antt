-- The places of ranges that have a cell: which place each cell keeps, and which ranges are listed for each join, with their cells' numbers. By what a join is named is open, as is what stands in the slot of a cell.
use Rattle.std.specs.Prelude.{◌≡◌, ◌≢◌, ℕ, List, slice_get, true, false, Contains, Option, Some, option_and_then}
use Rattle.std.specs.List.{list_all}
use Rattle.semantics.specs.Texts.{Range}
use Rattle.key_ranges.specs.Ranges.{meets}
use Rattle.layering.specs.Parts.{IsWithin}
use Rattle.range_set.specs.declared.piece.Piece.{Piece}
use Rattle.range_set.specs.Joined.{JoinTo}
use Rattle.range_set.specs.Held.{Held as Ranges, is_free}
use Rattle.range_set.specs.Pieces.{are_gaps_apart, gaps_of, kept_of, parts_within, ranges_of}
use Rattle.cell_slots.specs.declared.slot.Part.{Part}

-- the place that the slot with a number keeps, if there is one and it keeps one: for which join, and the range
abbrev pub place_in : {S K : Type 0} → (S → Option (K × Range)) → List S → ℕ → Option (K × Range)
place_in place_of slots id = option_and_then place_of (slice_get slots id)

-- ---- which place each cell keeps

module _ {K : Type 0} (keeps : ℕ → Option (K × Range)) where
  -- the cell with a number keeps a place for a range of a join
  abbrev pub KeepsPlace : ℕ → K → Range → Type 0
  KeepsPlace id at range = keeps id ≡ Some (at, range)

  -- the cell with a number keeps a place for a range of a join, and a part lies within it
  pub record LiesInPlace (id : ℕ) (at : K) (part : Range) : Type 0 where
    pub place : Range
    pub kept : KeepsPlace id at place
    pub inside : IsWithin part place

  -- a range meets no place that is kept for a join
  abbrev pub MeetsNoPlace : K → Range → Type 0
  MeetsNoPlace at range = (id : ℕ) (place : Range) → KeepsPlace id at place → meets place range ≡ false

  -- among parts of a range is each place whole that is kept for a join within the range, with the cell that keeps it
  abbrev pub ServeKept : K → Range → List Part → Type 0
  ServeKept at range parts = (id : ℕ) (place : Range) → KeepsPlace id at place → IsWithin place range → Contains parts (record { range = place; cell = Some id })

  -- each range that is listed for a join, with a cell's number, is the place that this cell keeps
  abbrev pub AreKept : (K → Ranges ℕ) → Type 0
  AreKept held = (id : ℕ) (at : K) (range : Range) → Contains (held at) (range, id) → KeepsPlace id at range

-- ---- which ranges are listed

module _ {K : Type 0} where
  -- for one join other ranges are listed, and for each other one those that were
  pub record ListsInstead (at : K) (ranges : Ranges ℕ) (old new : K → Ranges ℕ) : Type 0 where
    pub here : new at ≡ ranges
    pub others : (other : K) → other ≢ at → new other ≡ old other

  -- for each join the ranges are listed that were
  abbrev pub ListsTheSame : (K → Ranges ℕ) → (K → Ranges ℕ) → Type 0
  ListsTheSame old new = (at : K) → new at ≡ old at

-- ---- pieces

-- the pieces of a range, in order: what it has in common with ranges that are listed, each with the number of the range's cell, and the gaps, which are whole and meet no range that is listed
pub record ArePieces (range : Range) (ranges : Ranges ℕ) (pieces : List (Piece ℕ)) : Type 0 where
  pub joins : JoinTo range (ranges_of pieces)
  pub kept : kept_of pieces ≡ parts_within range ranges
  pub whole_gaps : are_gaps_apart pieces ≡ true
  pub free_gaps : list_all (is_free ranges) (gaps_of pieces) ≡ true
