use Rattle.rank_layers.proofs.MoveLemmas.{moves_by_call}
use Rattle.rank_layers.proofs.layer.LowestRank.changed.Goals as goal

pub returns-clause-moves : goal.returns-clause-moves
returns-clause-moves g c =
    moves_by_call g.S.Reader.list g.S.Reader.floor g.S.Reader.went _ c.args.lowest.now c.changed.new.self (g.met.S.Cells.went_frame c.args.lowest.now c.changed.new.self) c.changed.ensures.kept c.changed.ensures.entered c.changed.ensures.same_floor c.changed.ensures.on
