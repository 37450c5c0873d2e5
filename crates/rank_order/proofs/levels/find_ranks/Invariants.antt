use Rattle.std.proofs.Common.{◌≡◌}
use Rattle.rank_order.proofs.RankRaises.{ranks_within}
use Rattle.rank_order.proofs.levels.find_ranks.Given as goal

abbrev pub invariant-loop-round : goal.invariant-loop-round
invariant-loop-round l = l.numbers.items ≡ ranks_within l._round l.n l.edges
