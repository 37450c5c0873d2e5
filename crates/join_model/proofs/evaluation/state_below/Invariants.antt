use Rattle.std.proofs.Common.{◌≡◌}
use Rattle.semantics.specs.States.{below}
use Rattle.join_model.proofs.evaluation.state_below.Given as goal

abbrev pub invariant-loop-lower : goal.invariant-loop-lower
invariant-loop-lower l = l.table ≡ below l.entries l.lower
