use Rattle.range_cells.specs.Comparing.{gone_pair}
use Rattle.range_cells.proofs.ComparingLemmas.{mapped_push}
use Rattle.range_cells.proofs.comparing.push_gone.Goals as goal

pub loop-pair-preserved : goal.loop-pair-preserved
loop-pair-preserved c =
    mapped_push gone_pair c.args.changes.now.items c.loop-pair.changes.items _ c.args.pairs.now c.loop-pair.pair-index _ _ c.loop-pair-test.true c.pair-item.is c.loop-pair.invariant c.in_ok-gone.ensures
    c.in_ok-push.ensures.items
