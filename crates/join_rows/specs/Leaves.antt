-- Leaves one behind another.
use Rattle.std.specs.Prelude.{◌≡◌, ℕ, suc, ◌<◌, List, [], ◌∷◌, ◌++◌, length, take, drop, slice_index_or}
use Rattle.std.specs.List.{AllByRecursion, flat_map}
use Rattle.semantics.specs.Texts.{Text, Table}
use Rattle.join_rows.specs.Laid.{AreRows}
use Rattle.join_rows.specs.Found.{AllBelow, AllAbove}

-- the rows of all leaves, in order
abbrev pub all_rows : List Table → Table
all_rows leaves = flat_map (λ (leaf : Table). leaf) leaves

-- each leaf has a row, and the rows are keys and values, keys ascending from leaf to leaf
pub record AreLeaves (leaves : List Table) : Type 0 where
  pub filled : AllByRecursion (λ leaf. 0 < length leaf) leaves
  pub rows : AreRows (all_rows leaves)

-- the leaf at the place is the one in which the key stands, or would stand
pub record IsLeafOf (key : Text) (leaves : List Table) (place : ℕ) : Type 0 where
  pub inside : place < length leaves
  pub below : AllBelow key (all_rows (take place leaves))
  pub above : AllAbove key (all_rows (drop (suc place) leaves))

-- leaves with their number of rows
pub record AreCounted (parts : List Table) (count : ℕ) : Type 0 where
  pub leaves : AreLeaves parts
  pub number : count ≡ length (all_rows parts)

-- the leaf at a place
abbrev pub leaf_at : ℕ → List Table → Table
leaf_at place leaves = slice_index_or leaves place []

-- the second of two where a leaf has a row, and the first where it has none
abbrev pub by_rows : Table → List Table → List Table → List Table
by_rows [] without with_it = without
by_rows (row ∷ rows) without with_it = with_it

-- the leaves without the one at the place, where that has no row
abbrev pub without_empty : ℕ → List Table → List Table
without_empty place leaves = by_rows (leaf_at place leaves) (take place leaves ++ drop (suc place) leaves) leaves
