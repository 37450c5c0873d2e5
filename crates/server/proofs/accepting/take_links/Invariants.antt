-- the count of faults has stayed, and the links that were given are put
use Rattle.std.proofs.Common.{◌≡◌}
use Rattle.server.specs.Receipts.{HasAccepted}
use Rattle.server.proofs.accepting.take_links.Given as goal

abbrev pub invariant-loop : goal.invariant-loop
invariant-loop g l = record {
  goes_on : (goal.iterator-loop g).can_next l.iterator' × (goal.iterator-loop g).is_finite l.iterator';
  same_opened : g.D.Doors.opened l.doors ≡ g.D.Doors.opened l.fn.doors;
  same_faults : g.D.Doors.faults l.doors ≡ g.D.Doors.faults l.fn.doors;
  accepted : HasAccepted (g.D.Doors.held l.fn.doors) (g.D.Doors.held l.doors) l.fn.tally l.tally;
}
