use Rattle.std.proofs.Common.{◌≡◌, ◌+◌, ◌≤◌, List, take, true, sym, ◌∙◌, subst, arith}
use Rattle.std.specs.List.{AllByRecursion}
use Rattle.std.specs.List.Sorted.{IsStrictlySortedBy}
use Rattle.semantics.specs.Texts.{Text, text_cmp, within}
use Rattle.semantics.specs.Histories.{History, joins_of}
use Rattle.semantics.specs.States.{below}
use Rattle.growing_history.proofs.PrefixLemmas.{prefix_length, take_prefix}
use Rattle.layering.specs.Reached.{reached}
use Rattle.join_eval.specs.Answers.{HaveValues, change_keys}
use Rattle.join_eval.proofs.MovesLemmas.{moves_refl, moves_trans}
use Rattle.join_eval.proofs.ValueLemmas.{keys_of_valued, valued_have_values}
use Rattle.rank_layers.specs.Telling.{AddsChanges, ListsAdded}
use Rattle.rank_layers.proofs.valuing.add_valued.Goals as goal

pub returns-in_err-given-clause-moves : goal.returns-in_err-given-clause-moves
returns-in_err-given-clause-moves g c = moves_refl g.R.Reader.list g.R.Reader.floor (g.C.RangeCache.left (c.args.rank + 1)) c.args.reader.now (g.met.C.RangeCache.left_refl (c.args.rank + 1) c.args.reader.now)

pub add_changes-requires-clause-ascends : goal.add_changes-requires-clause-ascends
add_changes-requires-clause-ascends g c = subst (IsStrictlySortedBy text_cmp) (sym c.in_ok-given.ensures) c.requires.ascends

pub add_changes-requires-clause-inside : goal.add_changes-requires-clause-inside
add_changes-requires-clause-inside g c = subst (AllByRecursion (λ (key : Text). within c.args.range.now key ≡ true)) (sym c.in_ok-given.ensures) c.requires.inside

pub values_above-requires-clause-above : goal.values_above-requires-clause-above
values_above-requires-clause-above g c = subst (λ n. n ≤ c.args.p) (sym c.add_changes.ensures.moves.same_floor) c.requires.above

pub values_above-requires-clause-within : goal.values_above-requires-clause-within
values_above-requires-clause-within g c = omega (arith, c.requires.within, prefix_length (g.R.Reader.list c.args.reader.now) (g.R.Reader.list c.add_changes.new.reader) c.add_changes.ensures.moves.kept)

pub returns-in_err-valued-clause-moves : goal.returns-in_err-valued-clause-moves
returns-in_err-valued-clause-moves g c = moves_trans g.R.Reader.list g.R.Reader.floor (g.C.RangeCache.left (c.args.rank + 1)) c.args.reader.now c.add_changes.new.reader c.values_above.new.reader (g.met.C.RangeCache.left_trans (c.args.rank + 1) c.args.reader.now c.add_changes.new.reader c.values_above.new.reader) c.add_changes.ensures.moves c.values_above.ensures.moves

pub returns-clause-told : goal.returns-clause-told
returns-clause-told g c =
    let h = g.R.Reader.list c.args.reader.now in
    let joins = reached c.args.range.now c.args.rank (joins_of (take c.args.p h)) in
    let keys : change_keys c.in_ok-valued.valued.items ≡ c.in-Keys.keys.items =
    keys_of_valued _ c.as_slice.result.now c.in_ok-valued.valued.items c.in_ok-valued.ensures.exact ∙ c.as_slice.ensures.value in
    let told = subst (AddsChanges h c.args.since c.args.p c.args.rank c.args.range.now joins c.in_ok-given.given.items) c.in-Keys.is c.in_ok-keys.ensures.told in
    subst (λ (w : List Text × List Text). ListsAdded h c.args.since c.args.p c.args.rank c.args.range.now joins w.0 w.1) (λ i. (c.in_ok-given.ensures i, sym keys i)) told

pub returns-clause-values : goal.returns-clause-values
returns-clause-values g c =
    let h = g.R.Reader.list c.args.reader.now in
    let here = g.R.Reader.list c.add_changes.new.reader in
    subst (λ (l : History). HaveValues (below l (c.args.rank + 1)) c.in_ok-valued.valued.items) (take_prefix c.args.p h here c.requires.within c.add_changes.ensures.moves.kept)
    (valued_have_values _ c.as_slice.result.now c.in_ok-valued.valued.items c.in_ok-valued.ensures.exact)

pub returns-clause-moves : goal.returns-clause-moves
returns-clause-moves g c = moves_trans g.R.Reader.list g.R.Reader.floor (g.C.RangeCache.left (c.args.rank + 1)) c.args.reader.now c.add_changes.new.reader c.values_above.new.reader (g.met.C.RangeCache.left_trans (c.args.rank + 1) c.args.reader.now c.add_changes.new.reader c.values_above.new.reader) c.add_changes.ensures.moves c.values_above.ensures.moves
