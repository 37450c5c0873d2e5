-- the workers so far are taken apart
use Rattle.std.proofs.Common.{◌≡◌, ◌+◌, ◌<◌, ◌≤◌, ◌++◌, length, map}
use Rattle.std.specs.Prelude.{vec_capacity}
use Rattle.std.specs.List.{AllByRecursion}
use Rattle.pq_io.specs.Doors.{lists_of}
use Rattle.server.specs.Receipts.{joined_all}
use Rattle.server.proofs.settling.part_all.Given as goal

abbrev pub invariant-loop-worker : goal.invariant-loop-worker
invariant-loop-worker g l = record {
  next : (goal.iterator-loop-worker g).can_next l.worker-iterator;
  finite : (goal.iterator-loop-worker g).is_finite l.worker-iterator;
  tally : l.tally ≡ joined_all l.fn.tally (map (λ w. w.tally) l.yielded);
  queue : l.tally.queue ≡ l.queue;
  queues : AllByRecursion (λ w. w.tally.queue ≡ l.queue) l.worker-iterator.rest.items;
  parts : 0 < l.tally.parts;
  clients : l.clients.items ≡ l.fn.clients.items ++ map (λ w. w.client) l.yielded;
  receipts : lists_of l.receipts.items ≡ lists_of l.fn.receipts.items ++ map (λ w. w.receipts) l.yielded;
  room : length l.clients.items + length l.worker-iterator.rest.items ≤ vec_capacity l.clients;
  place : length l.receipts.items + length l.worker-iterator.rest.items ≤ vec_capacity l.receipts;
  same_place : vec_capacity l.receipts ≡ vec_capacity l.fn.receipts;
}
