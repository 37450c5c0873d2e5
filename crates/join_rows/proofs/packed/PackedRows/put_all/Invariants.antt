use Rattle.std.proofs.Common.{◌≡◌, take}
use Rattle.semantics.specs.States.{merged}
use Rattle.join_rows.proofs.packed.PackedRows.put_all.Given as goal

abbrev pub invariant-loop-place : goal.invariant-loop-place
invariant-loop-place l = l.self ≡ merged l.fn.self (take l.place l.leaf)
