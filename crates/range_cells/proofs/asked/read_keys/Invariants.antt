use Rattle.std.proofs.Common.{◌≡◌, ◌≤◌, take}
use Rattle.semantics.specs.States.{state}
use Rattle.shared_reader.specs.Lent.{LentReadsOn}
use Rattle.range_cells.specs.Asked.{pairs_at}
use Rattle.range_cells.proofs.asked.read_keys.Given as goal

-- the pass has read on, and the pairs at the keys so far are found
abbrev pub invariant-loop-key : goal.invariant-loop-key
invariant-loop-key g l = record {
  on : LentReadsOn l.fn.stack l.stack;
  counted : l.fn.steps ≤ l.steps;
  so_far : l.pairs.items ≡ pairs_at (take l.key-index l.keys) (state (take l.p l.fn.stack.pass.view));
}
