use Rattle.std.proofs.Common.{refl}
use Rattle.rank_layers.proofs.own_cells.OwnCellsRangeCacheRankReader.read_whole.Goals as goal

pub returns-clause-moves : goal.returns-clause-moves
returns-clause-moves g c =
    let moves = c.read_alone.ensures.moves in
    record { kept = moves.kept; entered = moves.entered; same_floor = moves.same_floor; on = (refl, moves.on) }
