use Rattle.std.proofs.Common.{refl}
use Rattle.cell_slots.proofs.FrameLemmas.{moves_same}
use Rattle.rank_layers.proofs.own_cells.OwnCellsRangeCacheRankReader.copy_join.Goals as goal

pub returns-clause-moves : goal.returns-clause-moves
returns-clause-moves g c = moves_same _ _ c.args.reader.now c.args.reader.now refl
