use Rattle.std.proofs.Common.{◌≤◌, length, take, not, sym, ap, subst, arith}
use Rattle.std.proofs.lemmas.Result.{IfOk-weaker}
use Rattle.semantics.specs.Histories.{joins_of, is_computed}
use Rattle.growing_history.proofs.PrefixLemmas.{prefix_length}
use Rattle.join_eval.proofs.MovesLemmas.{moves_trans}
use Rattle.base_reader.proofs.ReadingLemmas.{bare_read, left_fewer, no_pair_hidden, visible_read}
use Rattle.base_reader.proofs.lowest.lowest_pairs.Goals as goal

pub returns-in_err-pairs-clause-entered : goal.returns-in_err-pairs-clause-entered
returns-in_err-pairs-clause-entered g c = c.base_pairs.ensures.moves.entered c.base_pairs.ensures.entered

pub visible-requires-clause-above : goal.visible-requires-clause-above
visible-requires-clause-above g c = subst (λ n. n ≤ c.args.p) (sym c.base_pairs.ensures.moves.same_floor) c.requires.above

pub visible-requires-clause-within : goal.visible-requires-clause-within
visible-requires-clause-within g c = let list = g.S.BaseSource.list in omega (arith, c.requires.within, prefix_length (list c.args.source.now) (list c.base_pairs.new.self) c.base_pairs.ensures.moves.kept)

pub visible-requires-clause-bare : goal.visible-requires-clause-bare
visible-requires-clause-bare g c =
    let list = g.S.BaseSource.list in
    no_pair_hidden (list c.args.source.now) (list c.base_pairs.new.self) c.args.p c.args.range.now c.in_ok-pairs.pairs.items c.requires.within c.base_pairs.ensures.moves.kept c.base_pairs.ensures.entered c.look_at.ensures c.in_ok-pairs.ensures.exact

pub returns-clause-exact : goal.returns-clause-exact
returns-clause-exact g c =
    let list = g.S.BaseSource.list in
    IfOk-weaker c.visible.result _ _ (λ left hidden.
    visible_read (list c.args.source.now) (list c.base_pairs.new.self) c.args.p c.args.rank c.args.range.now c.in_ok-pairs.pairs.items left.items c.requires.within c.base_pairs.ensures.moves.kept c.requires.ranked c.in_ok-pairs.ensures.exact hidden) c.visible.ensures.visible

pub returns-clause-moves : goal.returns-clause-moves
returns-clause-moves g c =
    moves_trans g.S.BaseSource.list g.S.BaseSource.floor g.S.BaseSource.went c.args.source.now c.base_pairs.new.self c.visible.new.source
    (g.met.S.BaseSource.went_trans c.args.source.now c.base_pairs.new.self c.visible.new.source) c.base_pairs.ensures.moves c.visible.ensures.moves

pub returns-clause-entered : goal.returns-clause-entered
returns-clause-entered g c = c.visible.ensures.moves.entered (c.base_pairs.ensures.moves.entered c.base_pairs.ensures.entered)

pub returns-clause-cost : goal.returns-clause-cost
returns-clause-cost g c =
    IfOk-weaker c.visible.result _ _ (λ left hidden.
    let fewer = left_fewer (λ key. not (is_computed (joins_of (take c.args.p (g.S.BaseSource.list c.base_pairs.new.self))) key)) c.in_ok-pairs.pairs.items in
    let rows = ap length hidden in
    let cost = c.in_ok-pairs.ensures.cost in
    omega (arith, fewer, rows, cost)) c.visible.ensures.visible

pub returns-clause-bare : goal.returns-clause-bare
returns-clause-bare g c = λ bare.
    let list = g.S.BaseSource.list in
    IfOk-weaker c.visible.result _ _ (λ left hidden.
    let rows = bare_read (list c.args.source.now) c.args.p c.args.range.now c.in_ok-pairs.pairs.items left.items c.base_pairs.ensures.entered c.look_at.ensures bare c.in_ok-pairs.ensures.exact
    (visible_read (list c.args.source.now) (list c.base_pairs.new.self) c.args.p 0 c.args.range.now c.in_ok-pairs.pairs.items left.items c.requires.within c.base_pairs.ensures.moves.kept (omega arith) c.in_ok-pairs.ensures.exact hidden) in
    let cost = c.in_ok-pairs.ensures.cost in
    omega (arith, rows, cost)) c.visible.ensures.visible

pub returns-clause-spent : goal.returns-clause-spent
returns-clause-spent g c =
    let rows = ap length c.in_ok-pairs.ensures.exact in
    let cost = c.in_ok-pairs.ensures.cost in
    IfOk-weaker c.visible.result _ _ (λ left hidden. omega (arith, rows, cost)) c.visible.ensures.visible
