use Rattle.std.proofs.Common.{◌≡◌, subst, arith}
use Rattle.rank_order.specs.Walks.{AreDistances}
use Rattle.rank_order.proofs.distances.distances_to.Goals as goal

pub returns-clause-distances : goal.returns-clause-distances
returns-clause-distances c =
    let all : c.loop-steps.steps ≡ c.args.n = omega arith in
    subst (λ k. AreDistances c.args.edges.now c.args.goal k c.loop-steps.distances.items) all c.loop-steps.invariant.distances
