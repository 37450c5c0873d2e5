use Rattle.cache_trials.specs.Passes.{IsWriter}
use Rattle.cache_trials.proofs.playing.write_often.Given as goal

abbrev pub invariant-loop : goal.invariant-loop
invariant-loop g l = IsWriter g.N.Naming.history l.pass
