use Rattle.std.proofs.Common.{take}
use Rattle.rank_order.proofs.LeastWalks.{IsLeastSoFar}
use Rattle.rank_order.proofs.walk.next_towards.Given as goal

abbrev pub invariant-loop-reader : goal.invariant-loop-reader
invariant-loop-reader l = IsLeastSoFar l.distances l.goal l.steps l.vertex (take l.reader-index l.edges) l.least
