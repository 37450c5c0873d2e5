use Rattle.std.proofs.Common.{arith}
use Rattle.base_shards.proofs.ReadingLemmas.{reads_on-trans}
use Rattle.base_shards.proofs.base_shards.BaseShards.trim_part.Goals as goal

pub trim_some-requires-clause-floor : goal.trim_some-requires-clause-floor
trim_some-requires-clause-floor g c = omega (arith, c.requires.floor, c.loop-piece.invariant.higher)

pub loop-piece-preserved : goal.loop-piece-preserved
loop-piece-preserved g c = reads_on-trans c.args.pass.now c.loop-piece.pass c.trim_some.new.pass c.loop-piece.invariant c.trim_some.ensures

pub returns-then-not-trim_some : goal.returns-then-not-trim_some
returns-then-not-trim_some g c = reads_on-trans c.args.pass.now c.loop-piece.pass c.trim_some.new.pass c.loop-piece.invariant c.trim_some.ensures
