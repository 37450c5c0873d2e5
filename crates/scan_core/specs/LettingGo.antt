-- Cells that let go of what they hold for former joins and former ranks.
use Rattle.std.specs.Prelude.{◌≡◌, ◌⊎◌, ℕ, List, length, slice_get, Some}
use Rattle.semantics.specs.Histories.{History}
use Rattle.kept_ranges.specs.Sound.{KeptRange}
use Rattle.cell_slots.specs.declared.slot.Slot.{Slot}
use Rattle.cell_slots.specs.declared.slot.Slot.TheVariants.{Free}
use Rattle.cell_slots.specs.Slots.{Holdings, IsRankAt}
use Rattle.scan_core.specs.Cells.{HoldsAt}

-- the cell with a number held a kept range whose join does not stand after the first p entries with the range's rank, and is free
pub record IsLetGo (h : History) (p : ℕ) (before after : List Slot) (id : ℕ) : Type 0 where
  pub at : ℕ
  pub state : KeptRange
  pub held : HoldsAt before id at state
  pub former : IsRankAt h p at (Some state.rank) → ⊥
  pub free : slice_get after id ≡ Some Free

-- each slot is as it was, or its cell let go; there are as many, and the rest stays
pub record LetsGo (h : History) (p : ℕ) (before after : Holdings) : Type 0 where
  pub same_count : length after.slots ≡ length before.slots
  pub same_used : after.used ≡ before.used
  pub same_setting : after.setting ≡ before.setting
  pub each : (id : ℕ) → (slice_get after.slots id ≡ slice_get before.slots id) ⊎ IsLetGo h p before.slots after.slots id
