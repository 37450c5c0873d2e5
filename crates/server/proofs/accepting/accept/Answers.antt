use Rattle.std.proofs.Common.{inl, subst, sym}
use Rattle.std.proofs.lemmas.Result.{err_from_is_err_and}
use Rattle.pq_io.specs.Doors.{OpenedAt}
use Rattle.server.specs.Receipts.{HasAccepted}
use Rattle.server.proofs.AcceptLemmas.{accepted_none, accepted_same, opened_for}
use Rattle.server.proofs.accepting.accept.Goals as goal

-- the doors could not be opened
pub returns-in_err-open_at-clause-accepted : goal.returns-in_err-open_at-clause-accepted
returns-in_err-open_at-clause-accepted g c = accepted_same _ _ _ _ _ (accepted_none _ _) c.in_err-open_at.ensures.same_held

pub returns-in_err-open_at-clause-opened : goal.returns-in_err-open_at-clause-opened
returns-in_err-open_at-clause-opened g c =
    let failed = err_from_is_err_and c.from_residual.result c.from_residual.ensures.1 in
    rw failed.1 (inl c.in_err-open_at.ensures.same_opened)

-- what they hold stayed as they were opened
pub returns-clause-accepted : goal.returns-clause-accepted
returns-clause-accepted g c =
    subst (λ held. HasAccepted held (g.D.Doors.held c.take_links.new.doors) c.args.tally.now c.take_links.new.tally) c.in_ok-open_at.ensures.same_held c.take_links.ensures.accepted

-- and they were opened nowhere else then
pub returns-clause-opened : goal.returns-clause-opened
returns-clause-opened g c =
    opened_for (g.D.Doors.opened c.args.doors.now) (g.D.Doors.opened c.take_links.new.doors) c.args.address.now c.take_links.result
    (subst (λ opened. OpenedAt (g.D.Doors.opened c.args.doors.now) opened c.args.address.now) (sym c.take_links.ensures.same_opened) c.in_ok-open_at.ensures.opened)
