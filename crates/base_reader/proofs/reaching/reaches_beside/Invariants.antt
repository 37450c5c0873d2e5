use Rattle.base_reader.specs.Reaching.{AreUnreachedBut}
use Rattle.base_reader.proofs.reaching.reaches_beside.Given as goal

-- none so far is reached
abbrev pub invariant-loop-k : goal.invariant-loop-k
invariant-loop-k l = AreUnreachedBut l.joins.standing l.range l.i l.k
