use Rattle.std.proofs.Common.{◌+◌, ◌≤◌, sym, take, get_or, subst, arith}
use Rattle.std.proofs.lemmas.List.{get_or_default}
use Rattle.semantics.specs.Histories.{joins_of}
use Rattle.growing_history.proofs.PrefixLemmas.{prefix_length}
use Rattle.layering.specs.Reached.{reached}
use Rattle.join_eval.proofs.MovesLemmas.{moves_refl, moves_trans}
use Rattle.rank_layers.specs.Telling.{TellsJoin}
use Rattle.cell_slots.proofs.DeclaredLemmas.{stands_over}
use Rattle.rank_layers.proofs.JoinLemmas.{listed_stands}
use Rattle.rank_layers.proofs.TellingLemmas.{added_none, added_more, added_all, keys_known, lists_over}
use Rattle.rank_layers.proofs.telling.add_changes.Goals as goal

pub loop-at-init : goal.loop-at-init
loop-at-init g c = record {
  lists = added_none (g.R.Reader.list c.args.reader.now) c.args.since c.args.p c.args.rank c.args.range.now (reached c.args.range.now c.args.rank (joins_of (take c.args.p (g.R.Reader.list c.args.reader.now)))) c.args.keys.items c.requires.ascends c.requires.inside;
  moves = moves_refl g.R.Reader.list g.R.Reader.floor (g.C.RangeCache.left (c.args.rank + 1)) c.args.reader.now (g.met.C.RangeCache.left_refl (c.args.rank + 1) c.args.reader.now);
  entered = c.requires.entered;
  counted = omega arith;
}

pub changes_of_join-requires-clause-above : goal.changes_of_join-requires-clause-above
changes_of_join-requires-clause-above g c = subst (λ n. n ≤ c.args.p) (sym c.loop-at.invariant.moves.same_floor) c.requires.above

pub changes_of_join-requires-clause-within : goal.changes_of_join-requires-clause-within
changes_of_join-requires-clause-within g c = omega (arith, c.requires.within, prefix_length (g.R.Reader.list c.args.reader.now) (g.R.Reader.list c.loop-at.reader) c.loop-at.invariant.moves.kept)

pub changes_of_join-requires-clause-stands : goal.changes_of_join-requires-clause-stands
changes_of_join-requires-clause-stands g c =
    let list = g.R.Reader.list in
    let w = listed_stands (list c.args.reader.now) c.args.p c.args.range.now c.args.rank c.args.ats.now c.loop-at.at-index c.requires.within c.requires.listed c.loop-at-test.true in
    (w.0.join, stands_over (list c.args.reader.now) (list c.loop-at.reader) c.args.p (get_or c.args.ats.now c.loop-at.at-index 0) c.args.rank w.0.join c.requires.within c.loop-at.invariant.moves.kept w.2)

pub united-requires-clause-other_ascends : goal.united-requires-clause-other_ascends
united-requires-clause-other_ascends g c =
    let list = g.R.Reader.list in
    let w = listed_stands (list c.args.reader.now) c.args.p c.args.range.now c.args.rank c.args.ats.now c.loop-at.at-index c.requires.within c.requires.listed c.loop-at-test.true in
    let lists = subst (TellsJoin (list c.loop-at.reader) c.args.since c.args.p c.args.rank w.0.join c.args.range.now) c.in-Keys.is
    (c.in_ok-more.ensures.told w.0.join (stands_over (list c.args.reader.now) (list c.loop-at.reader) c.args.p (get_or c.args.ats.now c.loop-at.at-index 0) c.args.rank w.0.join c.requires.within c.loop-at.invariant.moves.kept w.2)) in
    lists.ascend

pub loop-at-preserved : goal.loop-at-preserved
loop-at-preserved g c =
    let list = g.R.Reader.list in
    let before = c.loop-at.invariant in
    let w = listed_stands (list c.args.reader.now) c.args.p c.args.range.now c.args.rank c.args.ats.now c.loop-at.at-index c.requires.within c.requires.listed c.loop-at-test.true in
    let lists = subst (TellsJoin (list c.loop-at.reader) c.args.since c.args.p c.args.rank w.0.join c.args.range.now) c.in-Keys.is
    (c.in_ok-more.ensures.told w.0.join (stands_over (list c.args.reader.now) (list c.loop-at.reader) c.args.p (get_or c.args.ats.now c.loop-at.at-index 0) c.args.rank w.0.join c.requires.within before.moves.kept w.2)) in
    record {
      lists =
          added_more (list c.args.reader.now) c.args.since c.args.p c.args.rank c.args.range.now (reached c.args.range.now c.args.rank (joins_of (take c.args.p (list c.args.reader.now)))) c.loop-at.at-index w.0
          c.args.keys.items c.loop-at.all.items c.in-Keys.more.items c.in_ok-all-in-Keys.all.items w.1 before.lists
          (lists_over (list c.args.reader.now) (list c.loop-at.reader) c.args.since c.args.p c.args.rank w.0.join c.args.range.now c.in-Keys.more.items c.requires.order c.requires.within before.moves.kept lists)
          c.in_ok-all-in-Keys.ensures.ascend c.in_ok-all-in-Keys.ensures.same;
      moves = moves_trans list g.R.Reader.floor (g.C.RangeCache.left (c.args.rank + 1)) c.args.reader.now c.loop-at.reader c.changes_of_join.new.reader (g.met.C.RangeCache.left_trans (c.args.rank + 1) c.args.reader.now c.loop-at.reader c.changes_of_join.new.reader) before.moves c.changes_of_join.ensures.moves;
      entered = c.changes_of_join.ensures.moves.entered before.entered;
      counted = omega (arith, before.counted, c.changes_of_join.ensures.counted);
    }

pub returns-clause-told : goal.returns-clause-told
returns-clause-told g c =
    let list = g.R.Reader.list in
    added_all (list c.args.reader.now) c.args.since c.args.p c.args.rank c.args.range.now (reached c.args.range.now c.args.rank (joins_of (take c.args.p (list c.args.reader.now)))) c.args.ats.now c.loop-at.at-index
    c.args.keys.items c.loop-at.all.items c.requires.listed c.loop-at-test.false c.loop-at.invariant.lists

pub returns-in_err-more-clause-moves : goal.returns-in_err-more-clause-moves
returns-in_err-more-clause-moves g c =
    moves_trans g.R.Reader.list g.R.Reader.floor (g.C.RangeCache.left (c.args.rank + 1)) c.args.reader.now c.loop-at.reader c.changes_of_join.new.reader (g.met.C.RangeCache.left_trans (c.args.rank + 1) c.args.reader.now c.loop-at.reader c.changes_of_join.new.reader) c.loop-at.invariant.moves c.changes_of_join.ensures.moves

pub returns-in_err-all-in-Keys-clause-moves : goal.returns-in_err-all-in-Keys-clause-moves
returns-in_err-all-in-Keys-clause-moves g c =
    moves_trans g.R.Reader.list g.R.Reader.floor (g.C.RangeCache.left (c.args.rank + 1)) c.args.reader.now c.loop-at.reader c.changes_of_join.new.reader (g.met.C.RangeCache.left_trans (c.args.rank + 1) c.args.reader.now c.loop-at.reader c.changes_of_join.new.reader) c.loop-at.invariant.moves c.changes_of_join.ensures.moves

pub returns-in-All-clause-moves : goal.returns-in-All-clause-moves
returns-in-All-clause-moves g c =
    moves_trans g.R.Reader.list g.R.Reader.floor (g.C.RangeCache.left (c.args.rank + 1)) c.args.reader.now c.loop-at.reader c.changes_of_join.new.reader (g.met.C.RangeCache.left_trans (c.args.rank + 1) c.args.reader.now c.loop-at.reader c.changes_of_join.new.reader) c.loop-at.invariant.moves c.changes_of_join.ensures.moves

-- ---- where it is not known

pub returns-clause-unknown : goal.returns-clause-unknown
returns-clause-unknown g c = λ all. absurd (keys_known c.loop-at.all all)

pub returns-in-All-clause-unknown : goal.returns-in-All-clause-unknown
returns-in-All-clause-unknown g c = λ all. record {
  thing = get_or c.args.ats.now c.loop-at.at-index 0;
  listed = (c.loop-at.at-index, c.loop-at-test.true, get_or_default c.args.ats.now c.loop-at.at-index (get_or c.args.ats.now c.loop-at.at-index 0) 0 c.loop-at-test.true);
  asked = c.loop-at.reader;
  on = c.loop-at.invariant.moves.on;
  is = c.in_ok-more.ensures.unknown c.in-All.is;
}
