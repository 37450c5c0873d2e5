use Rattle.std.proofs.Common.{take}
use Rattle.rank_order.proofs.RankRaises.{IsRaised}
use Rattle.rank_order.proofs.levels.raise.Given as goal

abbrev pub invariant-loop-reader : goal.invariant-loop-reader
invariant-loop-reader l = IsRaised l.numbers (take l.reader-index l.edges) l.found.items
