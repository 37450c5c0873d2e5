use Rattle.std.proofs.Common.{◌+◌, ◌≤◌, map, take, sym, ap, ◌∙◌, subst, arith}
use Rattle.std.proofs.lemmas.List.{take_all}
use Rattle.semantics.specs.Texts.{value_at}
use Rattle.semantics.specs.States.{below}
use Rattle.growing_history.proofs.PrefixLemmas.{prefix_length, take_prefix}
use Rattle.growing_history.specs.StateChanges.{change_to}
use Rattle.join_eval.proofs.MovesLemmas.{moves_refl, moves_trans}
use Rattle.rank_layers.proofs.ValueLemmas.{valued_more}
use Rattle.rank_layers.proofs.valuing.values_above.Goals as goal

pub returns-in_err-changes-clause-moves : goal.returns-in_err-changes-clause-moves
returns-in_err-changes-clause-moves g c = moves_refl g.R.Reader.list g.R.Reader.floor (g.C.RangeCache.left (c.args.rank + 1)) c.args.reader.now (g.met.C.RangeCache.left_refl (c.args.rank + 1) c.args.reader.now)

pub loop-key-init : goal.loop-key-init
loop-key-init g c = record {
  changes = c.in_ok-changes.ensures.items;
  moves = moves_refl g.R.Reader.list g.R.Reader.floor (g.C.RangeCache.left (c.args.rank + 1)) c.args.reader.now (g.met.C.RangeCache.left_refl (c.args.rank + 1) c.args.reader.now);
  counted = omega arith;
}

pub value_above-requires-clause-above : goal.value_above-requires-clause-above
value_above-requires-clause-above g c = subst (λ n. n ≤ c.args.p) (sym c.loop-key.invariant.moves.same_floor) c.requires.above

pub value_above-requires-clause-within : goal.value_above-requires-clause-within
value_above-requires-clause-within g c = omega (arith, c.requires.within, prefix_length (g.R.Reader.list c.args.reader.now) (g.R.Reader.list c.loop-key.reader) c.loop-key.invariant.moves.kept)

pub returns-in_err-value-clause-moves : goal.returns-in_err-value-clause-moves
returns-in_err-value-clause-moves g c = moves_trans g.R.Reader.list g.R.Reader.floor (g.C.RangeCache.left (c.args.rank + 1)) c.args.reader.now c.loop-key.reader c.value_above.new.reader (g.met.C.RangeCache.left_trans (c.args.rank + 1) c.args.reader.now c.loop-key.reader c.value_above.new.reader) c.loop-key.invariant.moves c.value_above.ensures.moves

pub returns-in_err-copy-clause-moves : goal.returns-in_err-copy-clause-moves
returns-in_err-copy-clause-moves g c = moves_trans g.R.Reader.list g.R.Reader.floor (g.C.RangeCache.left (c.args.rank + 1)) c.args.reader.now c.loop-key.reader c.value_above.new.reader (g.met.C.RangeCache.left_trans (c.args.rank + 1) c.args.reader.now c.loop-key.reader c.value_above.new.reader) c.loop-key.invariant.moves c.value_above.ensures.moves

pub returns-in_err-push-clause-moves : goal.returns-in_err-push-clause-moves
returns-in_err-push-clause-moves g c = moves_trans g.R.Reader.list g.R.Reader.floor (g.C.RangeCache.left (c.args.rank + 1)) c.args.reader.now c.loop-key.reader c.value_above.new.reader (g.met.C.RangeCache.left_trans (c.args.rank + 1) c.args.reader.now c.loop-key.reader c.value_above.new.reader) c.loop-key.invariant.moves c.value_above.ensures.moves

pub loop-key-preserved : goal.loop-key-preserved
loop-key-preserved g c =
    let list = g.R.Reader.list in
    let before = c.loop-key.invariant in
    let h = list c.args.reader.now in
    let table = below (take c.args.p h) (c.args.rank + 1) in
    let key = c.key-item.result in
    let stands = c.in_ok-value.ensures.value ∙ ap (λ l. value_at key (below l (c.args.rank + 1))) (take_prefix c.args.p h (list c.loop-key.reader) c.requires.within before.moves.kept) in
    record {
      changes = valued_more table c.args.keys.now c.loop-key.key-index key c.in_ok-copy.copy c.in_ok-value.value c.loop-key.changes.items c.push.new.self.items c.loop-key-test.true c.key-item.is c.in_ok-copy.ensures stands c.in_ok-push.ensures.items before.changes;
      moves = moves_trans g.R.Reader.list g.R.Reader.floor (g.C.RangeCache.left (c.args.rank + 1)) c.args.reader.now c.loop-key.reader c.value_above.new.reader (g.met.C.RangeCache.left_trans (c.args.rank + 1) c.args.reader.now c.loop-key.reader c.value_above.new.reader) c.loop-key.invariant.moves c.value_above.ensures.moves;
      counted = omega (arith, before.counted, c.value_above.ensures.counted);
    }

pub returns-clause-exact : goal.returns-clause-exact
returns-clause-exact g c =
    c.loop-key.invariant.changes
    ∙ ap (map (change_to (below (take c.args.p (g.R.Reader.list c.args.reader.now)) (c.args.rank + 1)))) (take_all c.loop-key.key-index c.args.keys.now c.loop-key-test.false)
