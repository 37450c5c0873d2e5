-- links were served in turn so far
use Rattle.std.proofs.Common.{◌≡◌}
use Rattle.pq_io.specs.Links.{link_told}
use Rattle.server.specs.Receipts.{HasServed}
use Rattle.server.proofs.working.serve_queued.Given as goal

abbrev pub invariant-loop : goal.invariant-loop
invariant-loop g l = record {
  next : (goal.iterator-loop g).can_next l.iterator';
  finite : (goal.iterator-loop g).is_finite l.iterator';
  served : HasServed (link_told g.K.Link.left g.K.Link.taken g.K.Link.read_faults g.K.Link.write_faults) g.K.Link.tells
      (g.S.Service.number l.fn.service) (g.S.Service.view l.fn.service) (g.S.Service.view l.service) l.fn.tally l.tally l.fn.receipts.items l.receipts.items;
  same_number : g.S.Service.number l.service ≡ g.S.Service.number l.fn.service;
  queue : l.tally.queue ≡ l.queue;
  parts : l.tally.parts ≡ l.fn.tally.parts;
}
