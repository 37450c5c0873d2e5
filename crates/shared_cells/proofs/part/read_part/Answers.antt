use Rattle.std.proofs.Common.{◌≤◌, sym, subst, arith}
use Rattle.std.proofs.lemmas.Result.{IfOk-weaker}
use Rattle.growing_history.proofs.PrefixLemmas.{prefix_length}
use Rattle.join_eval.proofs.MovesLemmas.{moves_trans}
use Rattle.cell_slots.proofs.DeclaredLemmas.{stands_over}
use Rattle.rank_layers.proofs.JoinLemmas.{output_over}
use Rattle.shared_cells.proofs.part.read_part.Goals as goal

pub read_alone-requires-clause-within : goal.read_alone-requires-clause-within
read_alone-requires-clause-within g c =
    omega (arith, c.requires.within, prefix_length (g.R.Reader.list c.args.reader.now) (g.R.Reader.list c.read_cell.new.reader) c.read_cell.ensures.moves.kept)

pub read_alone-requires-clause-above : goal.read_alone-requires-clause-above
read_alone-requires-clause-above g c = subst (λ n. n ≤ c.args.query.p) (sym c.read_cell.ensures.moves.same_floor) c.requires.above

pub read_alone-requires-clause-entered : goal.read_alone-requires-clause-entered
read_alone-requires-clause-entered g c = c.read_cell.ensures.moves.entered c.requires.entered

pub read_alone-requires-clause-stands : goal.read_alone-requires-clause-stands
read_alone-requires-clause-stands g c =
    let list = g.R.Reader.list in
    (c.requires.stands.0, stands_over (list c.args.reader.now) (list c.read_cell.new.reader) c.args.query.p c.args.query.at c.args.query.rank c.requires.stands.0 c.requires.within c.read_cell.ensures.moves.kept c.requires.stands.1)

pub returns-clause-output : goal.returns-clause-output
returns-clause-output g c =
    let list = g.R.Reader.list in
    IfOk-weaker c.read_alone.result _ _ (λ pairs is.
    output_over (list c.args.reader.now) (list c.read_cell.new.reader) c.args.query.p c.args.query.at c.args.query.rank c.args.part.now.range pairs.items c.requires.within c.read_cell.ensures.moves.kept is) c.read_alone.ensures.output

pub returns-clause-moves : goal.returns-clause-moves
returns-clause-moves g c =
    moves_trans g.R.Reader.list g.R.Reader.floor g.R.Reader.went c.args.reader.now c.read_cell.new.reader c.read_alone.new.reader
    (g.met.R.Reader.went_trans c.args.reader.now c.read_cell.new.reader c.read_alone.new.reader) c.read_cell.ensures.moves c.read_alone.ensures.moves
