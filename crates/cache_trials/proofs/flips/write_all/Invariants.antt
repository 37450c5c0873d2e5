use Rattle.cache_trials.specs.Passes.{IsWriter}
use Rattle.cache_trials.proofs.flips.write_all.Given as goal

abbrev pub invariant-loop-text : goal.invariant-loop-text
invariant-loop-text g l = IsWriter l.history l.pass
