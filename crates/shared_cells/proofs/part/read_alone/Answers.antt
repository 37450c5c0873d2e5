use Rattle.std.proofs.Common.{◌≤◌, sym, subst, arith}
use Rattle.std.proofs.lemmas.Result.{IfOk-weaker}
use Rattle.growing_history.proofs.PrefixLemmas.{prefix_length}
use Rattle.join_eval.proofs.MovesLemmas.{moves_trans}
use Rattle.rank_layers.proofs.JoinLemmas.{output_alone}
use Rattle.shared_cells.proofs.LayerLemmas.{ranked_over}
use Rattle.shared_cells.proofs.part.read_alone.Goals as goal

pub join_at-requires-clause-stands : goal.join_at-requires-clause-stands
join_at-requires-clause-stands g c = (c.args.query.rank, c.requires.stands.0, c.requires.stands.1)

pub serve_alone-requires-clause-within : goal.serve_alone-requires-clause-within
serve_alone-requires-clause-within g c =
    omega (arith, c.requires.within, prefix_length (g.R.Reader.list c.args.reader.now) (g.R.Reader.list c.join_at.new.self) c.join_at.ensures.moves.kept)

pub serve_alone-requires-clause-above : goal.serve_alone-requires-clause-above
serve_alone-requires-clause-above g c = subst (λ n. n ≤ c.args.query.p) (sym c.join_at.ensures.moves.same_floor) c.requires.above

pub serve_alone-requires-clause-entered : goal.serve_alone-requires-clause-entered
serve_alone-requires-clause-entered g c = c.join_at.ensures.moves.entered c.requires.entered

pub serve_alone-requires-clause-stands : goal.serve_alone-requires-clause-stands
serve_alone-requires-clause-stands g c =
    let list = g.R.Reader.list in
    ranked_over (list c.args.reader.now) (list c.join_at.new.self) c.args.query.p c.args.query.at c.args.query.rank c.requires.stands.0 c.in_ok-join.join c.requires.within c.join_at.ensures.moves.kept
    c.requires.stands.1 c.in_ok-join.ensures.declared

pub returns-clause-output : goal.returns-clause-output
returns-clause-output g c =
    let list = g.R.Reader.list in
    IfOk-weaker c.serve_alone.result _ _ (λ pairs is.
    output_alone (list c.args.reader.now) (list c.join_at.new.self) c.args.query.p c.args.query.at c.args.query.rank c.in_ok-range.range c.args.part.now c.in_ok-join.join pairs.items c.requires.within c.join_at.ensures.moves.kept
    c.in_ok-join.ensures.declared c.in_ok-range.ensures is) c.serve_alone.ensures.output

pub returns-clause-moves : goal.returns-clause-moves
returns-clause-moves g c =
    moves_trans g.R.Reader.list g.R.Reader.floor g.R.Reader.went c.args.reader.now c.join_at.new.self c.serve_alone.new.reader
    (g.met.R.Reader.went_trans c.args.reader.now c.join_at.new.self c.serve_alone.new.reader) c.join_at.ensures.moves c.serve_alone.ensures.moves
