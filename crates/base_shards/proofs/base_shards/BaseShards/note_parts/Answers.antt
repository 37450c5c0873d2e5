use Rattle.base_shards.proofs.ReadingLemmas.{reads_on-trans, sees_still}
use Rattle.base_shards.proofs.base_shards.BaseShards.note_parts.Goals as goal

pub note_part-requires-clause-within : goal.note_part-requires-clause-within
note_part-requires-clause-within g c = sees_still c.args.pass.now c.loop-number.pass c.args.p c.loop-number.invariant c.requires.within

pub loop-number-preserved : goal.loop-number-preserved
loop-number-preserved g c = reads_on-trans c.args.pass.now c.loop-number.pass c.note_part.new.pass c.loop-number.invariant c.note_part.ensures
