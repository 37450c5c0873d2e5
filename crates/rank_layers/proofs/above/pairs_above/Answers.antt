use Rattle.std.proofs.Common.{◌≡◌, ◌+◌, ◌-◌, ◌≤◌, take, true, sym, ◌∙◌, subst, arith}
use Rattle.std.proofs.lemmas.Result.{IfOk-weaker}
use Rattle.semantics.specs.Histories.{joins_of}
use Rattle.semantics.specs.States.{below}
use Rattle.semantics.proofs.MergedLemmas.{ascending-pairs_within}
use Rattle.semantics.proofs.StateLemmas.{ascending-below}
use Rattle.growing_history.specs.Changes.{is_bare}
use Rattle.growing_history.proofs.EnteredLemmas.{has_entered_taken}
use Rattle.growing_history.proofs.PrefixLemmas.{prefix_length, prefix_trans, take_prefix}
use Rattle.layering.specs.Merging.{Ascends}
use Rattle.layering.specs.Reached.{reached}
use Rattle.join_eval.proofs.MovesLemmas.{moves_trans}
use Rattle.rank_layers.proofs.MoveLemmas.{moves_by_call, moves_looked, up_one}
use Rattle.rank_layers.proofs.JoinLemmas.{listed_over, ok_both}
use Rattle.rank_layers.proofs.AboveLemmas.{bare_costs, bare_reached, exact_above}
use Rattle.rank_layers.proofs.above.pairs_above.Goals as goal

pub returns-in_err-pairs-clause-moves : goal.returns-in_err-pairs-clause-moves
returns-in_err-pairs-clause-moves g c =
    moves_by_call g.R.Reader.list g.R.Reader.floor g.R.Reader.went (g.C.RangeCache.left (c.args.rank + 1)) c.args.reader.now c.pairs.new.self (g.met.C.RangeCache.left_below (c.args.rank + 1) c.args.reader.now c.pairs.new.self (up_one g.R.Reader.top c.args.rank c.requires.next))
    c.pairs.ensures.kept c.pairs.ensures.entered c.pairs.ensures.same_floor c.pairs.ensures.on

pub returns-in_err-ats-clause-moves : goal.returns-in_err-ats-clause-moves
returns-in_err-ats-clause-moves g c =
    moves_looked g.R.Reader.list g.R.Reader.floor g.R.Reader.went g.C.RangeCache.looked (g.C.RangeCache.left (c.args.rank + 1)) c.args.reader.now c.pairs.new.self c.reached.new.reader (g.met.C.RangeCache.left_below (c.args.rank + 1) c.args.reader.now c.pairs.new.self (up_one g.R.Reader.top c.args.rank c.requires.next))
    (g.met.C.RangeCache.left_looked (c.args.rank + 1) c.pairs.new.self c.reached.new.reader) (g.met.C.RangeCache.left_trans (c.args.rank + 1) c.args.reader.now c.pairs.new.self c.reached.new.reader) c.pairs.ensures.kept c.pairs.ensures.entered c.pairs.ensures.same_floor c.pairs.ensures.on c.reached.ensures.moves

pub reached-requires-clause-within : goal.reached-requires-clause-within
reached-requires-clause-within g c = omega (arith, c.requires.within, prefix_length (g.R.Reader.list c.args.reader.now) (g.R.Reader.list c.pairs.new.self) c.pairs.ensures.kept)

pub reached-requires-clause-above : goal.reached-requires-clause-above
reached-requires-clause-above g c = subst (λ n. n ≤ c.args.p) (sym c.pairs.ensures.same_floor) c.requires.above

pub add_outputs-requires-clause-listed : goal.add_outputs-requires-clause-listed
add_outputs-requires-clause-listed g c =
    let list = g.R.Reader.list in
    listed_over (list c.pairs.new.self) (list c.reached.new.reader) c.args.p c.args.rank c.args.range.now c.in_ok-ats.ats.items c.as_slice.result.now
    (omega (arith, c.requires.within, prefix_length (list c.args.reader.now) (list c.pairs.new.self) c.pairs.ensures.kept)) c.reached.ensures.moves.kept c.as_slice.ensures.value c.in_ok-ats.ensures.reached

pub add_outputs-requires-clause-within : goal.add_outputs-requires-clause-within
add_outputs-requires-clause-within g c =
    let list = g.R.Reader.list in
    omega (arith, c.requires.within, prefix_length (list c.args.reader.now) (list c.pairs.new.self) c.pairs.ensures.kept, prefix_length (list c.pairs.new.self) (list c.reached.new.reader) c.reached.ensures.moves.kept)

pub add_outputs-requires-clause-above : goal.add_outputs-requires-clause-above
add_outputs-requires-clause-above g c = subst (λ n. n ≤ c.args.p) (sym (c.reached.ensures.moves.same_floor ∙ c.pairs.ensures.same_floor)) c.requires.above

pub add_outputs-requires-clause-entered : goal.add_outputs-requires-clause-entered
add_outputs-requires-clause-entered g c = c.reached.ensures.moves.entered c.pairs.ensures.entered

pub add_outputs-requires-clause-ascends : goal.add_outputs-requires-clause-ascends
add_outputs-requires-clause-ascends g c =
    let table = below (take c.args.p (g.R.Reader.list c.args.reader.now)) c.args.rank in
    subst Ascends (sym c.in_ok-pairs.ensures.exact) (ascending-pairs_within c.args.range.now table (ascending-below (take c.args.p (g.R.Reader.list c.args.reader.now)) c.args.rank))

pub returns-clause-exact : goal.returns-clause-exact
returns-clause-exact g c =
    let list = g.R.Reader.list in
    IfOk-weaker c.add_outputs.result _ _ (λ all is.
    exact_above (list c.args.reader.now) (list c.reached.new.reader) c.args.p c.args.rank c.args.range.now all.items c.in_ok-pairs.pairs.items c.requires.within
    (prefix_trans (list c.args.reader.now) (list c.pairs.new.self) (list c.reached.new.reader) c.pairs.ensures.kept c.reached.ensures.moves.kept) (c.reached.ensures.moves.entered c.pairs.ensures.entered)
    c.look_at.ensures c.in_ok-pairs.ensures.exact is) c.add_outputs.ensures.output

pub returns-clause-moves : goal.returns-clause-moves
returns-clause-moves g c =
    moves_trans g.R.Reader.list g.R.Reader.floor (g.C.RangeCache.left (c.args.rank + 1)) c.args.reader.now c.reached.new.reader c.add_outputs.new.reader (g.met.C.RangeCache.left_trans (c.args.rank + 1) c.args.reader.now c.reached.new.reader c.add_outputs.new.reader)
    (moves_looked g.R.Reader.list g.R.Reader.floor g.R.Reader.went g.C.RangeCache.looked (g.C.RangeCache.left (c.args.rank + 1)) c.args.reader.now c.pairs.new.self c.reached.new.reader (g.met.C.RangeCache.left_below (c.args.rank + 1) c.args.reader.now c.pairs.new.self (up_one g.R.Reader.top c.args.rank c.requires.next))
    (g.met.C.RangeCache.left_looked (c.args.rank + 1) c.pairs.new.self c.reached.new.reader) (g.met.C.RangeCache.left_trans (c.args.rank + 1) c.args.reader.now c.pairs.new.self c.reached.new.reader) c.pairs.ensures.kept c.pairs.ensures.entered c.pairs.ensures.same_floor c.pairs.ensures.on c.reached.ensures.moves)
    c.add_outputs.ensures.moves

pub returns-clause-bare : goal.returns-clause-bare
returns-clause-bare g c = λ bare.
    let list = g.R.Reader.list in
    let prefix = prefix_trans (list c.args.reader.now) (list c.pairs.new.self) (list c.reached.new.reader) c.pairs.ensures.kept c.reached.ensures.moves.kept in
    let same = take_prefix c.args.p (list c.args.reader.now) (list c.reached.new.reader) c.requires.within prefix in
    let none = bare_reached (list c.reached.new.reader) c.args.p c.args.rank c.args.range.now (has_entered_taken c.args.p (list c.reached.new.reader) (c.reached.ensures.moves.entered c.pairs.ensures.entered)) c.look_at.ensures
    (subst (λ h. is_bare c.args.range.now (joins_of h) ≡ true) (sym same) bare) in
    ok_both c.add_outputs.result _ _ _ (λ all is spends.
    bare_costs (λ x y at j added. g.C.RangeCache.cost_one x y at c.args.rank c.args.p c.args.range.now j added) c.reached.new.reader c.add_outputs.new.reader c.args.range.now (reached c.args.range.now c.args.rank (joins_of (take c.args.p (list c.reached.new.reader))))
    (below (take c.args.p (list c.reached.new.reader)) c.args.rank) c.in_ok-pairs.pairs.items all.items c.args.steps.now c.pairs.new.steps c.add_outputs.new.steps none is spends c.add_outputs.ensures.counted (c.in_ok-pairs.ensures.bare bare))
    c.add_outputs.ensures.output c.add_outputs.ensures.spent

pub returns-clause-spent : goal.returns-clause-spent
returns-clause-spent g c =
    let list = g.R.Reader.list in
    let prefix = prefix_trans (list c.args.reader.now) (list c.pairs.new.self) (list c.reached.new.reader) c.pairs.ensures.kept c.reached.ensures.moves.kept in
    IfOk-weaker c.add_outputs.result _ _ (λ all spends.
    g.met.C.RangeCache.spends_next c.args.reader.now c.pairs.new.self c.reached.new.reader c.add_outputs.new.reader c.args.p c.args.range.now c.args.rank (c.pairs.new.steps - c.args.steps.now) (c.add_outputs.new.steps - c.pairs.new.steps)
    (c.add_outputs.new.steps - c.args.steps.now) (omega (arith, c.pairs.ensures.counted, c.add_outputs.ensures.counted)) c.requires.within prefix c.in_ok-pairs.ensures.spent c.reached.ensures.moves.on spends) c.add_outputs.ensures.spent
