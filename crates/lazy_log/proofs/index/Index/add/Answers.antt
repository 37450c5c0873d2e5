use Rattle.std.proofs.Common.{true, cond, ap, ◌∙◌, is_eq}
use Rattle.semantics.specs.Patterns.{Slots}
use Rattle.key_pattern.specs.SlotOrder.{slots_cmp}
use Rattle.lazy_log.specs.Index.{is_among}
use Rattle.lazy_log.proofs.IndexLemmas.{index_more}
use Rattle.lazy_log.proofs.index.Index.add.Goals as goal

pub returns : goal.returns
returns c = λ output noted of own.
    index_more output noted c.args.self.now _ c.args.slots.now of own c.lend-lent.ensures.slots.places c.in_ok-add_shape.ensures.here c.in_ok-add_shape.ensures.others
    (λ q. c.in_ok-insert.ensures.updates.0 q
    ∙ ap (λ (s : Slots). cond (is_eq (slots_cmp s q)) true (is_among c.args.self.now.slots.keys q)) (c.in_ok-copy.ensures ∙ c.lend-lent.ensures.lent))
