use Rattle.std.proofs.Common.{max, sym, ◌∙◌}
use Rattle.rank_order.proofs.RankRaises.{ord_max-nat}
use Rattle.join_set.specs.Sets.{position_of}
use Rattle.join_set.proofs.TimelineLemmas.{greatest_more}
use Rattle.join_set.proofs.drops.last_drop.Goals as goal

pub loop-dropped-preserved : goal.loop-dropped-preserved
loop-dropped-preserved c =
    c.max-last.ensures ∙ ord_max-nat c.loop-dropped.last c.position_of.result ∙ (λ i. max (c.loop-dropped.invariant i) (c.position_of.ensures i))
    ∙ sym (greatest_more (position_of c.args.table.now) c.args.drops.now c.loop-dropped.dropped-index c.dropped-item.result c.loop-dropped-test.true c.dropped-item.is)
