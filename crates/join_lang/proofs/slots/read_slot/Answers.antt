use Rattle.std.proofs.Common.{Some, ◌∙◌}
use Rattle.join_lang.proofs.SegmentLemmas.{slot_of_body-cut}
use Rattle.join_lang.proofs.slots.read_slot.Goals as goal

pub returns-in-Some-width_of : goal.returns-in-Some-width_of
returns-in-Some-width_of c =
    let e = slot_of_body-cut c.args.names.now c.args.body.now c.cut_at.result.0.now (Some c.in-Some.width) (rw c.in-Some.is at c.cut_at.ensures) in
    rw (e, ← c.in-Some-width_of.ensures) c.slot_named-in-Some-width_of.ensures

pub returns-in-None-width_of : goal.returns-in-None-width_of
returns-in-None-width_of c =
    let e = slot_of_body-cut c.args.names.now c.args.body.now c.cut_at.result.0.now (Some c.in-Some.width) (rw c.in-Some.is at c.cut_at.ensures) in
    e ∙ rw (← c.in-None-width_of.ensures)
