use Rattle.std.proofs.Common.{◌<◌}
use Rattle.base_shards.proofs.base_shards.BaseShards.follow.Given as goal

-- it is the number of a part
abbrev pub invariant-loop-range : goal.invariant-loop-range
invariant-loop-range g l = l.number < 16
