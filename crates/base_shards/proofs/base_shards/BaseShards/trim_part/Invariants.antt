use Rattle.base_shards.specs.Reading.{ReadsOn}
use Rattle.base_shards.proofs.base_shards.BaseShards.trim_part.Given as goal

-- the pass reads on
abbrev pub invariant-loop-piece : goal.invariant-loop-piece
invariant-loop-piece g l = ReadsOn l.fn.pass l.pass
