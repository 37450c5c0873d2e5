use Rattle.std.proofs.Common.{◌≡◌, ◌↔◌, Contains, IsTrue, IfSome, sym, ap, subst, ◌∙◌}
use Rattle.lazy_log.specs.Pending.{PendingSlots}
use Rattle.lazy_log.specs.Held.{slots_of}
use Rattle.lazy_log.specs.Index.{IsIndexOf}
use Rattle.lazy_log.proofs.log.LazyLog.has.Goals as goal

pub returns-clause-has : goal.returns-clause-has
returns-clause-has c =
    let noted_is : slots_of c.as_slice-3.result.now ≡ c.args.self.now.noted = ap slots_of c.as_slice-3.ensures.value ∙ ap (λ (log : PendingSlots). log.noted) c.self.view_is in
    let same = ap slots_of (c.as_slice-2.ensures.value ∙ sym c.as_slice-3.ensures.value) in
    subst (λ noted. IsTrue c.are_among-has.result ↔ Contains noted c.args.slots.now) noted_is
    (c.are_among-has.ensures c.self.inside.output (subst (λ noted. IfSome c.in_ok-index.index (IsIndexOf c.self.inside.output noted)) same c.in_ok-index.ensures))
