use Rattle.load_run.specs.Jobs.{AreDealt}
use Rattle.load_run.proofs.jobs.deal.Given as goal

abbrev pub invariant-loop-act : goal.invariant-loop-act
invariant-loop-act g l = AreDealt l.yielded l.fn.jobs l.jobs
