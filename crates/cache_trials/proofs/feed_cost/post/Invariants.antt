use Rattle.cache_trials.specs.Passes.{IsWriter}
use Rattle.cache_trials.proofs.feed_cost.post.Given as goal

abbrev pub invariant-loop-number : goal.invariant-loop-number
invariant-loop-number g l = IsWriter l.history l.pass
