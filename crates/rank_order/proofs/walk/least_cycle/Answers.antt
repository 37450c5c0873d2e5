use Rattle.std.proofs.Common.{◌≡◌, ◌-◌, length, sym, subst, arith}
use Rattle.std.proofs.lemmas.Bool.{some_since}
use Rattle.std.proofs.lemmas.Option.{MatchOption-at_some}
use Rattle.rank_order.proofs.LeastWalks.{IsWalked, IsWalked-next, next-from_IsWalked, IsLeastCycle-from_IsWalked}
use Rattle.rank_order.proofs.walk.least_cycle.Goals as goal

pub unwrap-vertex-requires : goal.unwrap-vertex-requires
unwrap-vertex-requires c =
    some_since c.next_towards.result _ _ c.next_towards.ensures
    (next-from_IsWalked c.args.edges.now c.args.distances.now c.args.start c.loop-steps.cycle.items (length c.args.distances.now) c.loop-steps.steps c.loop-steps.vertex
    c.requires.ends c.requires.distances c.loop-steps-test.true c.loop-steps.invariant)

pub loop-steps-preserved : goal.loop-steps-preserved
loop-steps-preserved c =
    let next = MatchOption-at_some _ _ c.unwrap-vertex.result c.unwrap-vertex.ensures c.next_towards.ensures in
    subst (λ walked. IsWalked c.args.edges.now c.args.distances.now c.args.start walked (c.loop-steps.steps - 1) c.unwrap-vertex.result) (sym c.in_ok-push.ensures.items)
    (IsWalked-next c.args.edges.now c.args.distances.now c.args.start c.loop-steps.cycle.items (length c.args.distances.now) c.loop-steps.steps c.loop-steps.vertex c.unwrap-vertex.result
    c.requires.ends c.requires.distances c.loop-steps-test.true c.loop-steps.invariant next)

pub returns : goal.returns
returns c =
    let over : c.loop-steps.steps ≡ 0 = omega arith in
    IsLeastCycle-from_IsWalked c.args.edges.now c.args.distances.now c.args.start (length c.args.distances.now) c.loop-steps.cycle.items c.loop-steps.vertex
    c.requires.distances c.requires.start_in c.requires.cycle
    (subst (λ k. IsWalked c.args.edges.now c.args.distances.now c.args.start c.loop-steps.cycle.items k c.loop-steps.vertex) over c.loop-steps.invariant)
