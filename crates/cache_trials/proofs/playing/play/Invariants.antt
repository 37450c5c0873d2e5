use Rattle.cache_trials.specs.Passes.{IsWriter}
use Rattle.cache_trials.proofs.playing.play.Given as goal

abbrev pub invariant-loop-line : goal.invariant-loop-line
invariant-loop-line g l = IsWriter g.N.Naming.history l.pass
