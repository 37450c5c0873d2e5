-- The ranges that are read while cells are at work.
use Rattle.std.specs.Prelude.{◌≡◌, ◌⊎◌, ℕ, List, [], ◌∷◌, ◌++◌}
use Rattle.semantics.specs.Texts.{Range}

-- how many cells are at work, and the ranges that were noted, in order
pub record NotedView : Type 0 where
  pub cells : ℕ
  pub ranges : List Range

-- the range is noted as the last, or not; while no cell is at work it is not
pub record MayBeNoted (old : NotedView) (range : Range) (new : NotedView) : Type 0 where
  pub cells : new.cells ≡ old.cells
  pub ranges : (new.ranges ≡ old.ranges ++ range ∷ []) ⊎ (new.ranges ≡ old.ranges)
  pub unless : old.cells ≡ 0 → new.ranges ≡ old.ranges
