use Rattle.std.proofs.Common.{◌≡◌}
use Rattle.history_trials.proofs.appends.look_often.Given as goal

abbrev pub invariant-loop : goal.invariant-loop
invariant-loop g l = l.pass.history ≡ l.history
