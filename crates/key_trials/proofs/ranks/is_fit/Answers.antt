use Rattle.std.proofs.Common.{arith}
use Rattle.rank_order.proofs.Falls.{AreVertices-from_falls, EachCycleMeets-from_falls}
use Rattle.key_trials.proofs.ranks.is_fit.Goals as goal

pub returns-clause-ends : goal.returns-clause-ends
returns-clause-ends c =
    λ _. AreVertices-from_falls c.args.n c.args.start c.args.heights.now c.args.edges.now (λ k h. c.loop-reader.invariant k (omega arith))

pub returns-clause-cycles : goal.returns-clause-cycles
returns-clause-cycles c =
    λ _. EachCycleMeets-from_falls c.args.n c.args.start c.args.heights.now c.args.edges.now (λ k h. c.loop-reader.invariant k (omega arith))
