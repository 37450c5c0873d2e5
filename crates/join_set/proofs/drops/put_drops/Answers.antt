use Rattle.std.proofs.Common.{◌++◌, filter, not, ap, ◌∙◌, rules}
use Rattle.std.proofs.lemmas.Fn.{filter_same}
use Rattle.join_set.specs.Sets.{LastDrop, has_drop}
use Rattle.join_set.proofs.drops.put_drops.Goals as goal

pub returns-clause-put : goal.returns-clause-put
returns-clause-put c =
    let kept = filter_same _ (λ (d : LastDrop). not (has_drop d.table c.as_slice-others.result.now)) _ (λ d b f' t. search rules) c.reserve.new.self.items c.retain.new.self.items c.retain.ensures.filtered in
    c.in-Ok.ensures.items
    ∙ ap (λ left. left ++ c.args.made.items) (kept ∙ (λ i. filter (λ d. not (has_drop d.table (c.as_slice-others.ensures.value i))) (c.in_ok-reserve.ensures.items i)))
