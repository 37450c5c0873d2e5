-- The ranges that a cell follows.
use Rattle.std.specs.Prelude.{◌≡◌, ℕ, ◌≤◌, List, length}
use Rattle.std.specs.List.{Contains, insert}
use Rattle.semantics.specs.Texts.{Range}
use Rattle.layering.specs.Parts.{IsWithin}

-- one of the ranges has the whole of a range
pub record HaveWhole (ranges : List Range) (range : Range) : Type 0 where
  pub other : Range
  pub is_among : Contains ranges other
  pub has : IsWithin range other

-- the ranges with one more, somewhere among them
pub record IsOneMore (old : List Range) (range : Range) (new : List Range) : Type 0 where
  pub place : ℕ
  pub inside : place ≤ length old
  pub is : new ≡ insert old place range
