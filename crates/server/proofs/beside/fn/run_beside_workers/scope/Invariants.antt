-- the threads are those of the workers so far
use Rattle.std.proofs.Common.{◌≡◌, ◌+◌, ◌≤◌, ◌++◌, length, map}
use Rattle.std.specs.Prelude.{vec_capacity}
use Rattle.std.specs.List.{AllByRecursion}
use Rattle.server.proofs.beside.fn.run_beside_workers.scope.Given as goal

abbrev pub invariant-loop-worker : goal.invariant-loop-worker
invariant-loop-worker g l = record {
  next : (goal.iterator-loop-worker g).can_next l.worker-iterator;
  finite : (goal.iterator-loop-worker g).is_finite l.worker-iterator;
  queues : AllByRecursion (λ w. g.W.Labour.is_of w l.queue) l.worker-iterator.rest.items;
  threads : map (λ t. t.promise.begun.value) l.threads.items ++ l.worker-iterator.rest.items ≡ l.initial.worker-iterator.rest.items;
  room : length l.threads.items + length l.worker-iterator.rest.items ≤ vec_capacity l.threads;
  place : length l.threads.items + length l.worker-iterator.rest.items ≤ vec_capacity l.ended;
}
