use Rattle.semantics.specs.Texts.{Table}
use Rattle.request_codec.specs.Written.{HasPairs}
use Rattle.join_trials.proofs.replies.written.Given as goal

-- some pairs are written
abbrev pub invariant-loop-pair : goal.invariant-loop-pair
invariant-loop-pair l = (rows : Table) × HasPairs l.position rows l.writer
