use Rattle.std.proofs.Common.{◌≡◌, ◌++◌}
use Rattle.base_shards.proofs.key_set.listed.Given as goal

abbrev pub invariant-loop-key : goal.invariant-loop-key
invariant-loop-key l = l.keys.items ++ l.key-iterator ≡ l.fn.found.keys
