use Rattle.rank_layers.proofs.MoveLemmas.{moves_by_call}
use Rattle.rank_layers.proofs.layer.LowestRank.changes.Goals as goal

pub returns-clause-moves : goal.returns-clause-moves
returns-clause-moves g c =
    moves_by_call g.S.Reader.list g.S.Reader.floor g.S.Reader.went _ c.args.lowest.now c.changes.new.self (g.met.S.Cells.went_frame c.args.lowest.now c.changes.new.self) c.changes.ensures.kept c.changes.ensures.entered c.changes.ensures.same_floor c.changes.ensures.on
