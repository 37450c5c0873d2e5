use Rattle.std.proofs.Common.{arith}
use Rattle.rank_order.proofs.LeastWalks.{IsAcyclic-from_distance}
use Rattle.rank_order.proofs.answer.ranks.Goals as goal

pub returns-then-index-eq0-clause-acyclic : goal.returns-then-index-eq0-clause-acyclic
returns-then-index-eq0-clause-acyclic c = (
  λ _. IsAcyclic-from_distance c.args.n c.args.edges.now c.args.start c.index.result.now c.in_ok-distances.distances.items
      c.requires.ends c.requires.cycles c.in_ok-distances.ensures.distances (omega (arith, c.in_ok-distances.ensures.length, c.in_ok-distances.distances.ok.0)) c.index.ensures c.if-index-eq0.true,
  λ _. tt,
)
