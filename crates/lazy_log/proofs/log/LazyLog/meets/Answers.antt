use Rattle.std.proofs.Common.{ap, ◌∙◌, rules}
use Rattle.std.specs.List.{list_any}
use Rattle.std.proofs.lemmas.Iterator.{YieldsList-from_slice}
use Rattle.std.proofs.lemmas.Iterator.Search.{any_from_yields_List}
use borrow.Author.Tests.{tests}
use Rattle.lazy_log.specs.Pending.{PendingSlots, meets_held, meets_output}
use Rattle.lazy_log.specs.declared.log.Noted.{Noted}
use Rattle.lazy_log.proofs.PendingLemmas.{any_held}
use Rattle.lazy_log.proofs.log.LazyLog.meets.Goals as goal

pub returns : goal.returns
returns c =
    let range = c.args.range.now in
    any_from_yields_List (λ (n : Noted). meets_held n.held range) _ _ c.any.result c.any.ensures.ran (YieldsList-from_slice c.deref.result.now cc) (λ x b q k. search (rules, tests))
    ∙ ap (list_any (λ (n : Noted). meets_held n.held range)) c.deref.ensures.value
    ∙ any_held c.self.inside.output range c.self.inside.noted.items c.self.invariant.0
    ∙ ap (λ (log : PendingSlots). list_any (meets_output log.output range) log.noted) c.self.view_is
