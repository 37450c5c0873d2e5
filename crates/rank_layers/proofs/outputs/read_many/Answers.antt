use Rattle.std.proofs.Common.{◌+◌, ◌≤◌, sym, ap, ◌∙◌, subst, take, arith}
use Rattle.std.proofs.lemmas.Result.{IfOk-weaker}
use Rattle.growing_history.proofs.PrefixLemmas.{prefix_length, take_prefix}
use Rattle.semantics.specs.Texts.{pairs_within}
use Rattle.semantics.specs.Outputs.{out}
use Rattle.semantics.specs.States.{below}
use Rattle.join_eval.proofs.MovesLemmas.{moves_trans}
use Rattle.cell_slots.proofs.DeclaredLemmas.{stands_over}
use Rattle.rank_layers.proofs.JoinLemmas.{output_over, parts_output}
use Rattle.rank_layers.proofs.outputs.read_many.Goals as goal

-- ---- part by part

pub read_each-requires-clause-within : goal.read_each-requires-clause-within
read_each-requires-clause-within g c = omega (arith, c.requires.within, prefix_length (g.R.Reader.list c.args.reader.now) (g.R.Reader.list c.are_read_apart.new.reader) c.are_read_apart.ensures.moves.kept)

pub read_each-requires-clause-above : goal.read_each-requires-clause-above
read_each-requires-clause-above g c = subst (λ n. n ≤ c.args.query.p) (sym c.are_read_apart.ensures.moves.same_floor) c.requires.above

pub read_each-requires-clause-entered : goal.read_each-requires-clause-entered
read_each-requires-clause-entered g c = c.are_read_apart.ensures.moves.entered c.requires.entered

pub read_each-requires-clause-stands : goal.read_each-requires-clause-stands
read_each-requires-clause-stands g c =
    (c.requires.stands.0, stands_over (g.R.Reader.list c.args.reader.now) (g.R.Reader.list c.are_read_apart.new.reader) c.args.query.p c.args.query.at c.args.query.rank c.requires.stands.0 c.requires.within c.are_read_apart.ensures.moves.kept c.requires.stands.1)

pub returns-then-are_apart-clause-output : goal.returns-then-are_apart-clause-output
returns-then-are_apart-clause-output g c =
    let list = g.R.Reader.list in
    IfOk-weaker c.read_each.result _ _ (λ pairs is j stands.
    is j (stands_over (list c.args.reader.now) (list c.are_read_apart.new.reader) c.args.query.p c.args.query.at c.args.query.rank j c.requires.within c.are_read_apart.ensures.moves.kept stands)
    ∙ parts_output g.C.RangeCache.range_of c.args.range.now c.args.parts.now j (below (take c.args.query.p (list c.are_read_apart.new.reader)) c.args.query.rank) c.requires.joins
    ∙ ap (λ l. pairs_within c.args.range.now (out j (below l c.args.query.rank))) (take_prefix c.args.query.p (list c.args.reader.now) (list c.are_read_apart.new.reader) c.requires.within c.are_read_apart.ensures.moves.kept)) c.read_each.ensures.output

pub returns-then-are_apart-clause-moves : goal.returns-then-are_apart-clause-moves
returns-then-are_apart-clause-moves g c =
    moves_trans g.R.Reader.list g.R.Reader.floor (g.C.RangeCache.left (c.args.query.rank + 1)) c.args.reader.now c.are_read_apart.new.reader c.read_each.new.reader
    (g.met.C.RangeCache.left_trans (c.args.query.rank + 1) c.args.reader.now c.are_read_apart.new.reader c.read_each.new.reader)
    c.are_read_apart.ensures.moves c.read_each.ensures.moves

-- ---- as a whole

pub read_whole-requires-clause-within : goal.read_whole-requires-clause-within
read_whole-requires-clause-within g c = omega (arith, c.requires.within, prefix_length (g.R.Reader.list c.args.reader.now) (g.R.Reader.list c.are_read_apart.new.reader) c.are_read_apart.ensures.moves.kept)

pub read_whole-requires-clause-above : goal.read_whole-requires-clause-above
read_whole-requires-clause-above g c = subst (λ n. n ≤ c.args.query.p) (sym c.are_read_apart.ensures.moves.same_floor) c.requires.above

pub read_whole-requires-clause-entered : goal.read_whole-requires-clause-entered
read_whole-requires-clause-entered g c = c.are_read_apart.ensures.moves.entered c.requires.entered

pub read_whole-requires-clause-stands : goal.read_whole-requires-clause-stands
read_whole-requires-clause-stands g c =
    (c.requires.stands.0, stands_over (g.R.Reader.list c.args.reader.now) (g.R.Reader.list c.are_read_apart.new.reader) c.args.query.p c.args.query.at c.args.query.rank c.requires.stands.0 c.requires.within c.are_read_apart.ensures.moves.kept c.requires.stands.1)

pub returns-clause-output : goal.returns-clause-output
returns-clause-output g c =
    let list = g.R.Reader.list in
    IfOk-weaker c.read_whole.result _ _ (λ pairs is.
    output_over (list c.args.reader.now) (list c.are_read_apart.new.reader) c.args.query.p c.args.query.at c.args.query.rank c.args.range.now pairs.items c.requires.within c.are_read_apart.ensures.moves.kept is) c.read_whole.ensures.output

pub returns-clause-moves : goal.returns-clause-moves
returns-clause-moves g c =
    moves_trans g.R.Reader.list g.R.Reader.floor (g.C.RangeCache.left (c.args.query.rank + 1)) c.args.reader.now c.are_read_apart.new.reader c.read_whole.new.reader
    (g.met.C.RangeCache.left_trans (c.args.query.rank + 1) c.args.reader.now c.are_read_apart.new.reader c.read_whole.new.reader)
    c.are_read_apart.ensures.moves c.read_whole.ensures.moves

pub returns-clause-cost : goal.returns-clause-cost
returns-clause-cost g c = IfOk-weaker c.read_whole.result _ _ (λ pairs enough. omega (arith, enough)) c.read_whole.ensures.cost
