use Rattle.std.proofs.Common.{◌∙◌, refl, rules}
use Rattle.server.proofs.AcceptLemmas.{accepted_none, accepted_more, accepted_same}
use Rattle.server.proofs.accepting.take_links.Goals as goal

pub loop-init : goal.loop-init
loop-init g c = record { goes_on = search rules; same_opened = refl; same_faults = refl; accepted = accepted_none _ _ }

-- a link more
pub loop-preserved : goal.loop-preserved
loop-preserved g c =
    let so_far = c.loop.invariant in
    let given = c.in_ok-link.ensures in
    record {
      goes_on = search rules;
      same_opened = given.same_opened ∙ so_far.same_opened;
      same_faults = given.cause.kept ∙ so_far.same_faults;
      accepted = accepted_more _ _ _ _ _ _ c.in-Some-2.link so_far.accepted (rw c.in-Some-2.is at given.links) c.put.ensures;
    }

-- the doors are closed
pub returns-in-None-2-clause-accepted : goal.returns-in-None-2-clause-accepted
returns-in-None-2-clause-accepted g c =
    let given = rw c.in-None-2.is at c.in_ok-link.ensures.links in
    accepted_same _ _ _ _ _ c.loop.invariant.accepted given.0

-- they failed
pub returns-in_err-link-clause-accepted : goal.returns-in_err-link-clause-accepted
returns-in_err-link-clause-accepted g c = accepted_same _ _ _ _ _ c.loop.invariant.accepted c.in_err-link.ensures.links
