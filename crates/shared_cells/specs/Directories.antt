-- What a directory of cells is seen as, and how its calls change it.
use Rattle.std.specs.Prelude.{◌≡◌, ◌≢◌, ◌⊎◌, ℕ, List, length, slice_get, slice_set, Option, Some, None, IfSome}
use Rattle.semantics.specs.Texts.{Range}
use Rattle.layering.specs.Parts.{IsWithin}
use Rattle.range_set.specs.declared.piece.Piece.{Piece}
use Rattle.range_set.specs.declared.piece.Piece.TheVariants.{Kept, Gap}
use Rattle.cell_slots.specs.declared.slot.Part.{Part}
use Rattle.cell_slots.specs.Places.{AreKept, KeepsPlace}
use Rattle.shared_cells.specs.declared.ranked_join.RankedJoin.{RankedJoin}
use Rattle.shared_cells.specs.Listings.{IsListed, IsUnlisted, Listed, StayListed, listed_at}
use Rattle.shared_cells.specs.Spots.{SpotView, free, taken, leaving, place_at}

-- what stands at each number, and which ranges are listed
pub record DirectoryView : Type 0 where
  pub spots : List SpotView
  pub listed : Listed

-- a directory by these
abbrev pub directory_of : List SpotView → Listed → DirectoryView
directory_of spots listed = record { spots = spots; listed = listed }

-- each range that is listed is the place that the cell with its number keeps
abbrev pub IsDirectory : List SpotView → Listed → Type 0
IsDirectory spots listed = AreKept (place_at spots) (listed_at listed)

-- ---- giving cells

-- nothing stands elsewhere, and the same ranges are listed
pub record IsSame (before after : DirectoryView) : Type 0 where
  pub spots : after.spots ≡ before.spots
  pub listed : StayListed before.listed after.listed

-- a range of a join is given a number at which no cell stood: a cell for it stands there, and it is listed with the number
pub record IsGiven (join : RankedJoin) (range : Range) (id : ℕ) (before after : DirectoryView) : Type 0 where
  pub was : slice_get before.spots id ≡ Some free
  pub stands : after.spots ≡ slice_set before.spots id (taken join range)
  pub listed : IsListed join range id before.listed after.listed

-- it is, or it is given none and nothing changes
abbrev pub GivesCell : RankedJoin → Range → DirectoryView → DirectoryView → Option ℕ → Type 0
GivesCell join range before after None = IsSame before after
GivesCell join range before after (Some id) = IsGiven join range id before after

-- no cell stood at a number, and one for a part of a range of a join does
pub record IsForPart (join : RankedJoin) (range : Range) (id : ℕ) (before after : List SpotView) : Type 0 where
  pub part : Range
  pub inside : IsWithin part range
  pub was : slice_get before id ≡ Some free
  pub stands : slice_get after id ≡ Some (taken join part)

-- parts of a range of a join are given cells: at each number stands what stood there, or a cell for one of them where none stood; and no other join's ranges change
pub record GivesParts (join : RankedJoin) (range : Range) (before after : DirectoryView) : Type 0 where
  pub same_count : length after.spots ≡ length before.spots
  pub each : (id : ℕ) → (slice_get after.spots id ≡ slice_get before.spots id) ⊎ IsForPart join range id before.spots after.spots
  pub others : (other : RankedJoin) → other ≢ join → listed_at after.listed other ≡ listed_at before.listed other

-- ---- parts of pieces

-- a part is made of a piece: of a kept one, with its cell; or of a gap, and the cell that it has, if it has one, keeps just this place
abbrev pub IsMadeOf : RankedJoin → List SpotView → Piece ℕ → Part → Type 0
IsMadeOf join spots (Kept range id) part = (part.range ≡ range) × (part.cell ≡ Some id)
IsMadeOf join spots (Gap range) part = (part.range ≡ range) × IfSome part.cell (λ id. KeepsPlace (place_at spots) id join range)

-- ---- taking cells out

-- the cell with a number is taken out, to be evicted: its range is not listed any more
pub record IsLetGo (id : ℕ) (before after : DirectoryView) : Type 0 where
  pub join : RankedJoin
  pub range : Range
  pub was : slice_get before.spots id ≡ Some (taken join range)
  pub stands : after.spots ≡ slice_set before.spots id leaving
  pub listed : IsUnlisted join range before.listed after.listed

-- no cell stands at a number, and nothing changes
pub record NoneIsLetGo (id : ℕ) (before after : DirectoryView) : Type 0 where
  pub none : place_at before.spots id ≡ None
  pub same : after ≡ before
