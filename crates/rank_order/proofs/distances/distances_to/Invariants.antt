use Rattle.std.proofs.Common.{◌≡◌, length}
use Rattle.rank_order.specs.Walks.{AreDistances}
use Rattle.rank_order.proofs.distances.distances_to.Given as goal

abbrev pub invariant-loop-steps : goal.invariant-loop-steps
invariant-loop-steps l = record { room : length l.distances.items ≡ l.n; distances : AreDistances l.edges l.goal l.steps l.distances.items }
