use Rattle.std.proofs.Common.{◌≡◌, take}
use Rattle.semantics.specs.Texts.{pairs_within}
use Rattle.join_rows.specs.Leaves.{all_rows}
use Rattle.join_rows.proofs.packed.PackedRows.within.Given as goal

abbrev pub invariant-loop-leaf : goal.invariant-loop-leaf
invariant-loop-leaf l = l.pairs.items ≡ pairs_within l.range (all_rows (take l.leaf-index l.leaves))
