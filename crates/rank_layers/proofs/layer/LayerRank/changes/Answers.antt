use Rattle.std.proofs.Common.{rules, ◌+◌, ◌-◌, min, arith}
use Rattle.join_eval.specs.Moves.{Moves}
use Rattle.cell_slots.specs.Slots.{Frame}
use Rattle.rank_layers.proofs.PartLemmas.{of_lender, moves_weaker}
use Rattle.rank_layers.proofs.layer.LayerRank.changes.Goals as goal

pub returns-then-rank-top_rank-clause-moves : goal.returns-then-rank-top_rank-clause-moves
returns-then-rank-top_rank-clause-moves g c =
    let small = g.met.T.Rank.top_small in
    moves_weaker g.S.Reader.list g.S.Reader.floor g.S.Cells.holdings g.T.Rank.top (min 8 (g.T.Rank.top + 1)) c.args.lowest.now c.changes.new.lowest (omega (arith, small)) c.changes.ensures.moves

pub returns-clause-moves : goal.returns-clause-moves
returns-clause-moves g c =
    let moves = c.changes_above.ensures.moves in
    of_lender (λ lowest. Moves g.S.Reader.list g.S.Reader.floor (λ a b. Frame (min 8 (g.T.Rank.top + 1)) (g.S.Cells.holdings a) (g.S.Cells.holdings b)) c.args.lowest.now lowest)
    (moves_weaker g.S.Reader.list g.S.Reader.floor g.S.Cells.holdings (c.args.rank - 1 + 1) (min 8 (g.T.Rank.top + 1)) c.args.lowest.now c.changes_above.new.reader.lowest.now (omega (arith, c.requires.ranked, c.if-rank-top_rank.false))
    (record { kept = moves.kept; entered = moves.entered; same_floor = moves.same_floor; on = moves.on.1 }))
    (search rules)
