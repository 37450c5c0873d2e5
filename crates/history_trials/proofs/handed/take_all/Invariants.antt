-- the tally is of the queue, and has the parts that it had
use Rattle.std.proofs.Common.{◌≡◌}
use Rattle.history_trials.proofs.handed.take_all.Given as goal

abbrev pub invariant-loop : goal.invariant-loop
invariant-loop g l = ((goal.iterator-loop g).can_next l.iterator') × ((goal.iterator-loop g).is_finite l.iterator') × (l.tally.queue ≡ l.queue) × (l.tally.parts ≡ l.fn.tally.parts)
