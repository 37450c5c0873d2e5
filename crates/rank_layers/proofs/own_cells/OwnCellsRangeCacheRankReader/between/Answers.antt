use Rattle.cell_slots.proofs.FrameLemmas.{moves_same}
use Rattle.rank_layers.proofs.own_cells.OwnCellsRangeCacheRankReader.between.Goals as goal

pub returns-clause-moves : goal.returns-clause-moves
returns-clause-moves g c =
    moves_same _ _ c.args.reader.now _ (λ i. record c.args.reader.now { lowest = record c.args.reader.now.lowest { now = c.between.ensures.same i } })
