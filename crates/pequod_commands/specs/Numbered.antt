-- What contracts see of how the program ended.
use Rattle.std.specs.Prelude.{ℕ}

-- the number that it exits with
pub record Numbered : Type 0 where
  pub number : ℕ
