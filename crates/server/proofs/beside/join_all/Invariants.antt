-- the threads so far have ended
use Rattle.std.proofs.Common.{◌+◌, ◌≤◌, length, map}
use Rattle.std.specs.Prelude.{vec_capacity}
use Rattle.std.specs.List.{AllZip}
use Rattle.server.proofs.beside.join_all.Given as goal

abbrev pub invariant-loop-thread : goal.invariant-loop-thread
invariant-loop-thread g l = record {
  next : (goal.iterator-loop-thread g).can_next l.thread-iterator;
  finite : (goal.iterator-loop-thread g).is_finite l.thread-iterator;
  worked : AllZip g.W.Labour.leaves (map (λ t. t.promise.begun.value) l.yielded) l.ended.items;
  room : length l.ended.items + length l.thread-iterator.rest.items ≤ vec_capacity l.ended;
}
