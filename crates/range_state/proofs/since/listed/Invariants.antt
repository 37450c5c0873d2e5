use Rattle.std.proofs.Common.{◌≡◌, ◌++◌}
use Rattle.range_state.proofs.since.listed.Given as goal

abbrev pub invariant-loop-key : goal.invariant-loop-key
invariant-loop-key l = l.keys.items ++ l.key-iterator ≡ l.fn.sorted.keys
