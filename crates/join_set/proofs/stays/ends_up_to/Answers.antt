use Rattle.std.proofs.Common.{max, ap, sym, ◌∙◌}
use Rattle.join_set.specs.Timelines.{drop_up_to}
use Rattle.join_set.proofs.TimelineLemmas.{greatest_more}
use Rattle.join_set.proofs.stays.ends_up_to.Goals as goal

pub loop-stay-preserved : goal.loop-stay-preserved
loop-stay-preserved c = λ table.
    c.in_ok-raise_drop.ensures table ∙ ap (λ n. max n (drop_up_to c.args.p table c.stay-item.result)) (c.loop-stay.invariant table)
    ∙ sym (greatest_more (drop_up_to c.args.p table) c.args.stays.now c.loop-stay.stay-index c.stay-item.result c.loop-stay-test.true c.stay-item.is)
