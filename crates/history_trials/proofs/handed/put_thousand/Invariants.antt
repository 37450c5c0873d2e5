-- the tally is of the queue, and has the parts that it had
use Rattle.std.proofs.Common.{◌≡◌}
use Rattle.history_trials.proofs.handed.put_thousand.Given as goal

abbrev pub invariant-loop-item : goal.invariant-loop-item
invariant-loop-item g l = (l.tally.queue ≡ l.queue) × (l.tally.parts ≡ l.fn.tally.parts)
