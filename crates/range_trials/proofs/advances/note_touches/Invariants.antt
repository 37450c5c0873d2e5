use Rattle.std.proofs.Common.{◌≡◌}
use Rattle.range_trials.proofs.advances.note_touches.Given as goal

abbrev pub invariant-loop-touch : goal.invariant-loop-touch
invariant-loop-touch l = l.pending.output ≡ l.fn.pending.output
