use Rattle.std.proofs.Common.{refl}
use Rattle.rank_layers.proofs.TellingLemmas.{unknown_by}
use Rattle.rank_layers.proofs.own_cells.OwnCellsRangeCacheRankReader.changes_since.Goals as goal

pub returns-clause-unknown : goal.returns-clause-unknown
returns-clause-unknown g c =
    unknown_by c.changes_of_part.result (g.S.Cells.holdings c.args.reader.now.lowest.now).slots (g.S.Cells.holdings c.changes_of_part.new.lowest).slots c.args.query.at c.args.query.rank c.args.query.p c.args.since c.args.part.now c.changes_of_part.ensures.since

pub returns-clause-moves : goal.returns-clause-moves
returns-clause-moves g c =
    let moves = c.changes_of_part.ensures.moves in
    record { kept = moves.kept; entered = moves.entered; same_floor = moves.same_floor; on = (refl, moves.on) }
