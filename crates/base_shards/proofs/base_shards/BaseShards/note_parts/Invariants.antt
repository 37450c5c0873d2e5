use Rattle.base_shards.specs.Reading.{ReadsOn}
use Rattle.base_shards.proofs.base_shards.BaseShards.note_parts.Given as goal

-- the pass reads on
abbrev pub invariant-loop-number : goal.invariant-loop-number
invariant-loop-number g l = ReadsOn l.fn.pass l.pass
