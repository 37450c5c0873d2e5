use Rattle.load_run.specs.Jobs.{AreIdle}
use Rattle.load_run.proofs.jobs.idle_jobs.Given as goal

abbrev pub invariant-loop-client : goal.invariant-loop-client
invariant-loop-client g l = AreIdle l.yielded l.jobs.items
