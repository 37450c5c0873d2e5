-- What reading base pairs costs.
use Rattle.std.specs.Prelude.{◌≡◌, ℕ, ◌+◌, length, take}
use Rattle.semantics.specs.Texts.{Range, pairs_within}
use Rattle.semantics.specs.Histories.{History, base_of}

-- reading a range takes one step, and one for each base pair in it, and leaves the entries
pub record SpendsBase (before after : History) (p : ℕ) (range : Range) (added : ℕ) : Type 0 where
  pub cost : added ≡ 1 + length (pairs_within range (base_of (take p before)))
  pub still : after ≡ before
