use Rattle.std.proofs.Common.{refl}
use Rattle.rank_layers.proofs.PartLemmas.{took_by}
use Rattle.rank_layers.proofs.own_cells.OwnCellsRangeCacheRankReader.read.Goals as goal

pub returns-clause-moves : goal.returns-clause-moves
returns-clause-moves g c =
    let moves = c.read_part.ensures.moves in
    record { kept = moves.kept; entered = moves.entered; same_floor = moves.same_floor; on = (refl, moves.on) }

pub returns-clause-took : goal.returns-clause-took
returns-clause-took g c =
    took_by (λ v. v.items) c.read_part.result (g.S.Reader.list c.args.reader.now.lowest.now) (g.S.Cells.holdings c.args.reader.now.lowest.now) (g.S.Cells.holdings c.read_part.new.lowest) c.args.query.at c.args.query.rank c.args.query.p c.args.part.now c.args.steps.now c.read_part.new.steps
    c.read_part.ensures.ready c.read_part.ensures.stays c.read_part.ensures.behind c.read_part.ensures.pending c.read_part.ensures.held
