use Rattle.std.proofs.Common.{arith}
use Rattle.base_shards.proofs.ReadingLemmas.{reads_on-trans}
use Rattle.base_shards.proofs.base_shards.BaseShards.trim_parts.Goals as goal

pub trim_part-requires-clause-floor : goal.trim_part-requires-clause-floor
trim_part-requires-clause-floor g c = omega (arith, c.requires.floor, c.loop-number.invariant.higher)

pub loop-number-preserved : goal.loop-number-preserved
loop-number-preserved g c = reads_on-trans c.args.pass.now c.loop-number.pass c.trim_part.new.pass c.loop-number.invariant c.trim_part.ensures
