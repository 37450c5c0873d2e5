-- What stands at the numbers of cells.
use Rattle.std.specs.Prelude.{◌≡◌, ℕ, ◌++◌, List, replicate, slice_get, slice_set, Option, Some, None, option_map}
use Rattle.semantics.specs.Texts.{Range}
use Rattle.cell_slots.specs.declared.slot.Part.{Part}
use Rattle.cell_slots.specs.Places.{place_in}
use Rattle.shared_cells.specs.declared.ranked_join.RankedJoin.{RankedJoin}
use Rattle.shared_cells.specs.declared.spots.Spot.{Spot}
use Rattle.shared_cells.specs.declared.spots.Spot.TheVariants.{Free, Taken, Leaving}

-- at a number stands no cell; or one for a range of a join with its rank; or one that is being evicted
pub data SpotView : Type 0 where
  free : SpotView
  taken : RankedJoin → Range → SpotView
  leaving : SpotView

abbrev pub spot_view : {F T : Type 0} → Spot F T → SpotView
spot_view (Free waiting next) = free
spot_view (Taken join range cell) = taken join range
spot_view Leaving = leaving

-- what stands at the numbers that are in use, and at so many behind them, which are not: no cell
abbrev pub with_unused : List SpotView → ℕ → List SpotView
with_unused spots count = spots ++ replicate count free

-- ---- places

-- the place that a cell keeps, if there is one
abbrev pub place_of : SpotView → Option (RankedJoin × Range)
place_of free = None
place_of (taken join range) = Some (join, range)
place_of leaving = None

-- the place that the cell with a number keeps
abbrev pub place_at : List SpotView → ℕ → Option (RankedJoin × Range)
place_at spots id = place_in place_of spots id

-- ---- numbers

-- the number of a cell that was found
abbrev pub number_of : {C : Type 0} → Option (ℕ × C) → Option ℕ
number_of found = option_map (λ c. c.0) found

-- the number itself, if a cell stands there
abbrev pub number_at : List SpotView → ℕ → Option ℕ
number_at spots id = option_map (λ _. id) (place_at spots id)

-- a part, of whose cell the number alone is seen
abbrev pub numbered : {C : Type 0} → Range → Option (ℕ × C) → Part
numbered range cell = record { range = range; cell = number_of cell }

-- ---- changes

-- a cell for a range of a join is put at a number at which none stood
pub record IsPut (id : ℕ) (join : RankedJoin) (range : Range) (before after : List SpotView) : Type 0 where
  pub was : slice_get before id ≡ Some free
  pub stands : after ≡ slice_set before id (taken join range)

-- the cell with a number, which was for a range of a join, is taken out, to be evicted
pub record IsTakenOut (id : ℕ) (join : RankedJoin) (range : Range) (before after : List SpotView) : Type 0 where
  pub was : slice_get before id ≡ Some (taken join range)
  pub stands : after ≡ slice_set before id leaving

-- no cell stands at a number, and nothing changes
pub record NoneIsTakenOut (id : ℕ) (before after : List SpotView) : Type 0 where
  pub none : place_at before id ≡ None
  pub same : after ≡ before
