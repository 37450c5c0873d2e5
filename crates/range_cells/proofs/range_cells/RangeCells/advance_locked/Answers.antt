use Rattle.std.proofs.Common.{subst}
use Rattle.cell_slots.specs.Slots.{IsRankAt}
use Rattle.range_cells.proofs.TurnLemmas.{rank_among}
use Rattle.range_cells.proofs.range_cells.RangeCells.advance_locked.Goals as goal

pub advance_cell-requires-clause-rank : goal.advance_cell-requires-clause-rank
advance_cell-requires-clause-rank g c =
    let rank = rank_among c.args.pass.now.view c.args.p c.at.result c.args.joins.now c.rank_of-rank.result c.requires.joins c.rank_of-rank.ensures.rank in
    subst (λ n. IsRankAt c.args.pass.now.view c.args.p n c.rank_of-rank.result) c.at.ensures rank
