use Rattle.std.proofs.Common.{◌+◌, refl, arith}
use Rattle.cell_slots.proofs.FrameLemmas.{frame_weaker}
use Rattle.rank_layers.proofs.JoinLemmas.{ok_both}
use Rattle.rank_layers.proofs.PartLemmas.{moves_by_frame}
use Rattle.rank_layers.proofs.own_cells.OwnCellsRangeCacheRankReader.cover.Goals as goal

pub returns-clause-covered : goal.returns-clause-covered
returns-clause-covered g c =
    ok_both c.cover.result _ _ _ (λ parts alone reserved. record { alone = alone; ranked = c.cover.ensures.ranked; reserved = reserved; pulled = c.cover.ensures.pulled }) c.cover.ensures.alone c.cover.ensures.reserved

pub returns-clause-moves : goal.returns-clause-moves
returns-clause-moves g c =
    let lowest = c.args.reader.now.lowest.now in
    let moves =
    moves_by_frame g.S.Reader.list g.S.Reader.floor g.S.Cells.holdings (c.args.query.rank + 1) lowest c.cover.new.self c.cover.ensures.list c.cover.ensures.same_floor
    (frame_weaker 0 (c.args.query.rank + 1) (g.S.Cells.holdings lowest) (g.S.Cells.holdings c.cover.new.self) (omega arith) c.cover.ensures.frame) in
    record { kept = moves.kept; entered = moves.entered; same_floor = moves.same_floor; on = (refl, moves.on) }
