use Rattle.std.proofs.Common.{IfSome, subst, ◌∙◌}
use Rattle.key_pattern.specs.SlotOrder.{slots_cmp, slots_total}
use Rattle.key_pattern.proofs.AmongLemmas.{among_listed}
use Rattle.key_pattern.proofs.SlotOrderLemmas.{equal_slots}
use Rattle.lazy_log.specs.Held.{slots_of}
use Rattle.lazy_log.specs.Index.{IsIndexOf}
use Rattle.lazy_log.proofs.log.are_among.Goals as goal

pub returns-in-Some : goal.returns-in-Some
returns-in-Some c = λ output of.
    let is = subst (λ o. IfSome o (IsIndexOf output (slots_of c.args.noted.now))) c.in-Some.is of in
    among_listed slots_cmp slots_total equal_slots (slots_of c.args.noted.now) c.args.slots.now c.contains.result (c.contains.ensures ∙ is.just c.args.slots.now)
