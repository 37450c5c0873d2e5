-- What reading of the lowest reader costs.
use Rattle.std.specs.Prelude.{◌≡◌, ℕ, ◌+◌}
use Rattle.semantics.specs.Texts.{Range}
use Rattle.cell_slots.specs.Spending.{base_count}
use Rattle.scan_core.specs.Rights.{Contents}

-- it reads no rank above 0; reading a range takes one step, and one for each base pair in it, and changes nothing
pub record SpendsBase (before after : Contents) (p : ℕ) (range : Range) (rank added : ℕ) : Type 0 where
  pub bottom : rank ≡ 0
  pub cost : added ≡ 1 + base_count before.history p range
  pub still : after ≡ before
