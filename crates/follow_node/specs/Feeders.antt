-- What contracts see of a feeder.
use Rattle.std.specs.Prelude.{ℕ, ◌+◌, Bool}
use Rattle.protocol.specs.Lines.{Bytes}

-- the line that it was taking, where it keeps one; the number of writes before those of the line that was asked for last; how many of
-- its writes were taken; and whether a pull has ended the feeder
pub record FeederView : Type 0 where
  pub line : Bytes
  pub kept : Bool
  pub asked : ℕ
  pub taken : ℕ
  pub ended : Bool

-- how many writes its pulls have given
abbrev pub given : FeederView → ℕ
given f = f.asked + f.taken
