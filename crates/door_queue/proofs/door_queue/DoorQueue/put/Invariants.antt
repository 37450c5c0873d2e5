use Rattle.std.proofs.Common.{◌≡◌}
use Rattle.door_queue.proofs.door_queue.DoorQueue.put.Given as goal

abbrev pub invariant-loop : goal.invariant-loop
invariant-loop g l = ((goal.iterator-loop g).can_next l.iterator') × ((goal.iterator-loop g).is_finite l.iterator') × (l.item ≡ l.fn.item)
