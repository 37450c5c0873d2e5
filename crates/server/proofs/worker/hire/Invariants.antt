-- the clients so far have become workers
use Rattle.std.proofs.Common.{◌≡◌, ◌+◌, length}
use Rattle.server.specs.Receipts.{hired}
use Rattle.server.proofs.worker.hire.Given as goal

abbrev pub invariant-loop-client : goal.invariant-loop-client
invariant-loop-client g l = record {
  next : (goal.iterator-loop-client g).can_next l.client-iterator;
  finite : (goal.iterator-loop-client g).is_finite l.client-iterator;
  workers : l.workers.items ≡ hired l.queue l.yielded;
  tally : l.tally ≡ record l.fn.tally { parts = l.tally.parts };
  parts : l.tally.parts + length l.fn.clients.items ≡ l.fn.tally.parts + length l.client-iterator.rest.items;
}
