use Rattle.std.proofs.Common.{◌+◌, ◌≤◌, map, sym, subst, arith}
use Rattle.std.proofs.lemmas.List.{take_all}
use Rattle.growing_history.proofs.PrefixLemmas.{prefix_length}
use Rattle.layering.specs.Parts.{JoinTo}
use Rattle.join_eval.proofs.MovesLemmas.{moves_refl, moves_trans}
use Rattle.rank_layers.specs.Telling.{ListsJoin, TellsJoin}
use Rattle.cell_slots.proofs.DeclaredLemmas.{stands_over}
use Rattle.rank_layers.proofs.TellingLemmas.{keys_known, lists_none, lists_over, lists_more}
use Rattle.rank_layers.proofs.telling.changes_of_parts.Goals as goal

pub loop-part-init : goal.loop-part-init
loop-part-init g c = record {
  told = λ j range stands joins. subst (ListsJoin (g.R.Reader.list c.args.reader.now) c.args.since c.args.query.p c.args.query.rank j range) (sym c.new-all.ensures.items)
      (lists_none (g.R.Reader.list c.args.reader.now) c.args.since c.args.query.p c.args.query.rank j range joins);
  moves = moves_refl g.R.Reader.list g.R.Reader.floor (g.C.RangeCache.left (c.args.query.rank + 1)) c.args.reader.now (g.met.C.RangeCache.left_refl (c.args.query.rank + 1) c.args.reader.now);
  entered = c.requires.entered;
  counted = omega arith;
}

pub changes_since-requires-clause-above : goal.changes_since-requires-clause-above
changes_since-requires-clause-above g c = subst (λ n. n ≤ c.args.query.p) (sym c.loop-part.invariant.moves.same_floor) c.requires.above

pub changes_since-requires-clause-within : goal.changes_since-requires-clause-within
changes_since-requires-clause-within g c = omega (arith, c.requires.within, prefix_length (g.R.Reader.list c.args.reader.now) (g.R.Reader.list c.loop-part.reader) c.loop-part.invariant.moves.kept)

pub changes_since-requires-clause-stands : goal.changes_since-requires-clause-stands
changes_since-requires-clause-stands g c =
    (c.requires.stands.0, stands_over (g.R.Reader.list c.args.reader.now) (g.R.Reader.list c.loop-part.reader) c.args.query.p c.args.query.at c.args.query.rank c.requires.stands.0 c.requires.within c.loop-part.invariant.moves.kept c.requires.stands.1)

pub loop-part-preserved : goal.loop-part-preserved
loop-part-preserved g c =
    let list = g.R.Reader.list in
    let before = c.loop-part.invariant in
    record {
      told = λ j range stands joins.
          lists_more g.C.RangeCache.range_of (list c.args.reader.now) c.args.since c.args.query.p c.args.query.rank j range c.args.parts.now c.loop-part.part-index c.part-item.result c.loop-part.all.items c.in-Keys.keys.items c.append.new.self.items
          c.loop-part-test.true c.part-item.is c.in_ok-append-in-Keys.ensures.items (λ r. before.told j r stands)
          (lists_over (list c.args.reader.now) (list c.loop-part.reader) c.args.since c.args.query.p c.args.query.rank j (g.C.RangeCache.range_of c.part-item.result) c.in-Keys.keys.items c.requires.order c.requires.within before.moves.kept
          (subst (TellsJoin (list c.loop-part.reader) c.args.since c.args.query.p c.args.query.rank j (g.C.RangeCache.range_of c.part-item.result)) c.in-Keys.is
          (c.in_ok-keys.ensures.told j (stands_over (list c.args.reader.now) (list c.loop-part.reader) c.args.query.p c.args.query.at c.args.query.rank j c.requires.within before.moves.kept stands))))
          joins;
      moves = moves_trans list g.R.Reader.floor (g.C.RangeCache.left (c.args.query.rank + 1)) c.args.reader.now c.loop-part.reader c.changes_since.new.reader (g.met.C.RangeCache.left_trans (c.args.query.rank + 1) c.args.reader.now c.loop-part.reader c.changes_since.new.reader) before.moves c.changes_since.ensures.moves;
      entered = c.changes_since.ensures.moves.entered before.entered;
      counted = omega (arith, before.counted, c.changes_since.ensures.counted);
    }

pub returns-clause-told : goal.returns-clause-told
returns-clause-told g c = λ j range stands joins.
    c.loop-part.invariant.told j range stands (subst (λ ps. JoinTo range (map g.C.RangeCache.range_of ps)) (sym (take_all c.loop-part.part-index c.args.parts.now c.loop-part-test.false)) joins)

pub returns-in_err-keys-clause-moves : goal.returns-in_err-keys-clause-moves
returns-in_err-keys-clause-moves g c =
    moves_trans g.R.Reader.list g.R.Reader.floor (g.C.RangeCache.left (c.args.query.rank + 1)) c.args.reader.now c.loop-part.reader c.changes_since.new.reader (g.met.C.RangeCache.left_trans (c.args.query.rank + 1) c.args.reader.now c.loop-part.reader c.changes_since.new.reader) c.loop-part.invariant.moves c.changes_since.ensures.moves

pub returns-in_err-append-in-Keys-clause-moves : goal.returns-in_err-append-in-Keys-clause-moves
returns-in_err-append-in-Keys-clause-moves g c =
    moves_trans g.R.Reader.list g.R.Reader.floor (g.C.RangeCache.left (c.args.query.rank + 1)) c.args.reader.now c.loop-part.reader c.changes_since.new.reader (g.met.C.RangeCache.left_trans (c.args.query.rank + 1) c.args.reader.now c.loop-part.reader c.changes_since.new.reader) c.loop-part.invariant.moves c.changes_since.ensures.moves

pub returns-in-All-clause-moves : goal.returns-in-All-clause-moves
returns-in-All-clause-moves g c =
    moves_trans g.R.Reader.list g.R.Reader.floor (g.C.RangeCache.left (c.args.query.rank + 1)) c.args.reader.now c.loop-part.reader c.changes_since.new.reader (g.met.C.RangeCache.left_trans (c.args.query.rank + 1) c.args.reader.now c.loop-part.reader c.changes_since.new.reader) c.loop-part.invariant.moves c.changes_since.ensures.moves

-- ---- where it is not known

pub returns-clause-unknown : goal.returns-clause-unknown
returns-clause-unknown g c = λ all. absurd (keys_known c.loop-part.all all)

pub returns-in-All-clause-unknown : goal.returns-in-All-clause-unknown
returns-in-All-clause-unknown g c = λ all. record {
  thing = c.part-item.result;
  listed = (c.loop-part.part-index, c.loop-part-test.true, sym c.part-item.is);
  asked = c.loop-part.reader;
  on = c.loop-part.invariant.moves.on;
  is = c.in_ok-keys.ensures.unknown c.in-All.is;
}
