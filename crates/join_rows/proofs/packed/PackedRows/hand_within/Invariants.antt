use Rattle.std.proofs.Common.{◌≡◌, length, take}
use Rattle.semantics.specs.Texts.{pairs_within}
use Rattle.join_rows.specs.Leaves.{all_rows}
use Rattle.join_rows.proofs.packed.PackedRows.hand_within.Given as goal

-- the sink got the rows of the leaves so far, and they are counted
abbrev pub invariant-loop-leaf : goal.invariant-loop-leaf
invariant-loop-leaf g l = record {
  rows : g.K.RowSink.got l.fn.sink l.sink (pairs_within l.range (all_rows (take l.leaf-index l.leaves)));
  number : l.count ≡ length (pairs_within l.range (all_rows (take l.leaf-index l.leaves)));
}
