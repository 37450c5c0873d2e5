use Rattle.std.proofs.Common.{◌≡◌, take}
use Rattle.semantics.specs.States.{merged}
use Rattle.join_rows.specs.Leaves.{all_rows}
use Rattle.join_rows.proofs.packed.PackedRows.merge.Given as goal

abbrev pub invariant-loop-leaf : goal.invariant-loop-leaf
invariant-loop-leaf l = l.rows ≡ merged l.fn.self (all_rows (take l.leaf-index l.leaf-items))
