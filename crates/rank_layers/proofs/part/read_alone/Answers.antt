use Rattle.std.proofs.Common.{rules, ◌+◌}
use Rattle.std.proofs.lemmas.Result.{IfOk-weaker}
use Rattle.growing_history.proofs.PrefixLemmas.{prefix_refl}
use Rattle.join_eval.specs.Moves.{Moves}
use Rattle.cell_slots.specs.Slots.{Frame}
use Rattle.cell_slots.proofs.DeclaredLemmas.{rank_declared}
use Rattle.rank_layers.proofs.JoinLemmas.{output_alone}
use Rattle.rank_layers.proofs.MoveLemmas.{up_one}
use Rattle.rank_layers.proofs.PartLemmas.{of_lender, moves_weaker}
use Rattle.rank_layers.proofs.part.read_alone.Goals as goal

pub serve_alone-requires-clause-stands : goal.serve_alone-requires-clause-stands
serve_alone-requires-clause-stands g c =
    rank_declared (g.S.Reader.list c.args.lowest.now) c.args.query.p c.args.query.at c.args.query.rank c.requires.stands.0 c.in_ok-join.join c.requires.stands.1 c.in_ok-join.ensures

pub returns-clause-output : goal.returns-clause-output
returns-clause-output g c =
    let h = g.S.Reader.list c.args.lowest.now in
    IfOk-weaker c.serve_alone.result _ _ (λ pairs is.
    output_alone h h c.args.query.p c.args.query.at c.args.query.rank c.in_ok-range.range c.args.part.now c.in_ok-join.join pairs.items c.requires.within (prefix_refl h)
    c.in_ok-join.ensures c.in_ok-range.ensures is) c.serve_alone.ensures.output

pub returns-clause-moves : goal.returns-clause-moves
returns-clause-moves g c =
    let moves = c.serve_alone.ensures.moves in
    of_lender (λ lowest. Moves g.S.Reader.list g.S.Reader.floor (λ a b. Frame (c.args.query.rank + 1) (g.S.Cells.holdings a) (g.S.Cells.holdings b)) c.args.lowest.now lowest)
    (moves_weaker g.S.Reader.list g.S.Reader.floor g.S.Cells.holdings g.T.Rank.top (c.args.query.rank + 1) c.args.lowest.now c.serve_alone.new.reader.lowest.now (up_one g.T.Rank.top c.args.query.rank c.requires.next)
    (record { kept = moves.kept; entered = moves.entered; same_floor = moves.same_floor; on = moves.on.1 }))
    (search rules)
