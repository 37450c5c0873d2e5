use Rattle.std.proofs.Common.{max, sym, ◌∙◌}
use Rattle.rank_order.proofs.RankRaises.{ord_max-nat}
use Rattle.join_set.specs.Timelines.{change_up_to}
use Rattle.join_set.proofs.TimelineLemmas.{greatest_more}
use Rattle.join_set.proofs.stays.changed_up_to.Goals as goal

pub loop-stay-preserved : goal.loop-stay-preserved
loop-stay-preserved c =
    c.max-changed.ensures ∙ ord_max-nat c.loop-stay.changed c.change_up_to.result ∙ (λ i. max (c.loop-stay.invariant i) (c.change_up_to.ensures i))
    ∙ sym (greatest_more (change_up_to c.args.p) c.args.stays.now c.loop-stay.stay-index c.stay-item.result c.loop-stay-test.true c.stay-item.is)
