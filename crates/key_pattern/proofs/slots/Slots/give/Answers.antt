use Rattle.std.proofs.Common.{sym}
use Rattle.key_pattern.proofs.slots.Slots.give.Goals as goal

pub set-requires-clause-text : goal.set-requires-clause-text
set-requires-clause-text c =
    let is = c.in-Some.ensures.slots.texts c.in-Slot.place c.in-Some.text.now (sym c.in-Some.ensures.text) in
    record { long = is.0; lacks = is.1 }
