use Rattle.rank_order.proofs.LeastWalks.{IsWalked}
use Rattle.rank_order.proofs.walk.least_cycle.Given as goal

abbrev pub invariant-loop-steps : goal.invariant-loop-steps
invariant-loop-steps l = IsWalked l.edges l.distances l.start l.cycle.items l.steps l.vertex

abbrev pub decreases-loop-steps : goal.decreases-loop-steps
decreases-loop-steps l = l.steps
