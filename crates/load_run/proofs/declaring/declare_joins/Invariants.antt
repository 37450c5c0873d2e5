use Rattle.load_run.proofs.ActLemmas.{Declaring}
use Rattle.load_run.proofs.declaring.declare_joins.Given as goal

abbrev pub invariant-loop-join : goal.invariant-loop-join
invariant-loop-join g l = Declaring l.yielded l.position l.fn.first l.first
