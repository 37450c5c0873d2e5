use Rattle.std.proofs.Common.{is_some, IfSome, ap, subst, ◌∙◌}
use Rattle.std.specs.List.{list_any}
use Rattle.semantics.specs.Patterns.{bind}
use Rattle.lazy_log.specs.Pending.{PendingSlots}
use Rattle.lazy_log.specs.Held.{slots_of}
use Rattle.lazy_log.specs.Index.{IsIndexOf}
use Rattle.lazy_log.proofs.log.LazyLog.covers_by_texts.Goals as goal

pub returns : goal.returns
returns c =
    c.in_ok-covered.ensures (slots_of c.self.inside.noted.items) (subst (λ o. IfSome o (IsIndexOf c.self.inside.output (slots_of c.self.inside.noted.items))) c.in-Some.is c.self.invariant.1)
    ∙ ap (λ (log : PendingSlots). list_any (λ slots. is_some (bind log.output c.args.key.now slots)) log.noted) c.self.view_is
