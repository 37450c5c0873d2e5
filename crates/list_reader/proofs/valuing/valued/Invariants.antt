use Rattle.std.proofs.Common.{◌≡◌, map}
use Rattle.semantics.specs.States.{below}
use Rattle.growing_history.specs.StateChanges.{change_to}
use Rattle.list_reader.proofs.valuing.valued.Given as goal

abbrev pub invariant-loop-key : goal.invariant-loop-key
invariant-loop-key l = l.changes.items ≡ map (change_to (below l.entries l.rank)) l.yielded
