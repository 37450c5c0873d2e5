use Rattle.base_shards.specs.Reading.{ReadsOn}
use Rattle.range_cells.proofs.range_cells.RangeCells.advance_parts.Given as goal

-- the pass has read on
abbrev pub invariant-loop-number : goal.invariant-loop-number
invariant-loop-number g l = ReadsOn l.fn.pass l.pass
