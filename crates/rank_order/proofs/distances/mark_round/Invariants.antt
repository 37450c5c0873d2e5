use Rattle.std.proofs.Common.{take}
use Rattle.rank_order.proofs.DistanceMarks.{IsMarked}
use Rattle.rank_order.proofs.distances.mark_round.Given as goal

abbrev pub invariant-loop-reader : goal.invariant-loop-reader
invariant-loop-reader l = IsMarked l.goal l.steps l.initial.distances (take l.reader-index l.edges) l.distances
