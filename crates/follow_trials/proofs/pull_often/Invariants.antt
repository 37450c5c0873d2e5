use Rattle.std.proofs.Common.{◌≡◌, length}
use Rattle.follow_node.specs.Feeders.{given}
use Rattle.follow_trials.proofs.pull_often.Given as goal

-- the feeder has given the replica each of its writes
abbrev pub invariant-loop : goal.invariant-loop
invariant-loop l = length l.replica ≡ given l.feeder
