use Rattle.std.proofs.Common.{ap, ◌∙◌, is_some, rules}
use Rattle.std.specs.List.{list_any}
use Rattle.std.proofs.lemmas.Iterator.{YieldsList-from_slice}
use Rattle.std.proofs.lemmas.Iterator.Search.{any_from_yields_List}
use borrow.Author.Tests.{tests}
use Rattle.semantics.specs.Patterns.{Slots, bind}
use Rattle.lazy_log.specs.Pending.{PendingSlots}
use Rattle.lazy_log.specs.declared.log.Noted.{Noted}
use Rattle.lazy_log.proofs.PendingLemmas.{any_noted}
use Rattle.lazy_log.proofs.log.LazyLog.covers_one_by_one.Goals as goal

pub returns : goal.returns
returns c =
    let fits = λ (slots : Slots). is_some (bind c.self.inside.output c.args.key.now slots) in
    any_from_yields_List (λ (n : Noted). fits n.slots) _ _ c.any.result c.any.ensures.ran (YieldsList-from_slice c.deref.result.now cc) (λ x b q k. search (rules, tests))
    ∙ ap (list_any (λ (n : Noted). fits n.slots)) c.deref.ensures.value
    ∙ any_noted fits c.self.inside.noted.items
    ∙ ap (λ (log : PendingSlots). list_any (λ slots. is_some (bind log.output c.args.key.now slots)) log.noted) c.self.view_is
