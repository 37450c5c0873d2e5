use Rattle.std.proofs.Common.{◌≡◌, ◌+◌, ◌-◌, ◌≤◌, length, take, get_or, sym, ap, ◌∙◌, subst, arith}
use Rattle.semantics.specs.Texts.{pairs_within}
use Rattle.semantics.specs.Histories.{joins_of}
use Rattle.semantics.specs.Outputs.{out}
use Rattle.semantics.specs.States.{below, merged}
use Rattle.semantics.proofs.MergedLemmas.{ascending-merged}
use Rattle.growing_history.proofs.PrefixLemmas.{prefix_length}
use Rattle.layering.specs.Merging.{Ascends}
use Rattle.layering.specs.Reached.{reached}
use Rattle.join_eval.proofs.MovesLemmas.{moves_trans}
use Rattle.cell_slots.proofs.DeclaredLemmas.{stands_over}
use Rattle.rank_layers.proofs.JoinLemmas.{joins_spend_more, listed_stands, merged_fewer, output_over, part_ascends, with_parts_more}
use Rattle.rank_layers.proofs.outputs.add_outputs.Goals as goal

pub read_join-requires-clause-within : goal.read_join-requires-clause-within
read_join-requires-clause-within g c = omega (arith, c.requires.within, prefix_length (g.R.Reader.list c.args.reader.now) (g.R.Reader.list c.loop-at.reader) c.loop-at.invariant.moves.kept)

pub read_join-requires-clause-above : goal.read_join-requires-clause-above
read_join-requires-clause-above g c = subst (λ n. n ≤ c.args.p) (sym c.loop-at.invariant.moves.same_floor) c.requires.above

pub read_join-requires-clause-reached : goal.read_join-requires-clause-reached
read_join-requires-clause-reached g c =
    let list = g.R.Reader.list in
    let w = listed_stands (list c.args.reader.now) c.args.p c.args.range.now c.args.rank c.args.ats.now c.loop-at.at-index c.requires.within c.requires.listed c.loop-at-test.true in
    record {
      join = w.0.join;
      stands = stands_over (list c.args.reader.now) (list c.loop-at.reader) c.args.p (get_or c.args.ats.now c.loop-at.at-index 0) c.args.rank w.0.join c.requires.within c.loop-at.invariant.moves.kept w.2;
      reaches = w.4;
    }

pub returns-in_err-more-clause-moves : goal.returns-in_err-more-clause-moves
returns-in_err-more-clause-moves g c =
    moves_trans g.R.Reader.list g.R.Reader.floor (g.C.RangeCache.left (c.args.rank + 1)) c.args.reader.now c.loop-at.reader c.read_join.new.reader
    (g.met.C.RangeCache.left_trans (c.args.rank + 1) c.args.reader.now c.loop-at.reader c.read_join.new.reader) c.loop-at.invariant.moves c.read_join.ensures.moves

pub merge-requires-clause-other_ascends : goal.merge-requires-clause-other_ascends
merge-requires-clause-other_ascends g c =
    let list = g.R.Reader.list in
    let w = listed_stands (list c.args.reader.now) c.args.p c.args.range.now c.args.rank c.args.ats.now c.loop-at.at-index c.requires.within c.requires.listed c.loop-at-test.true in
    part_ascends c.args.range.now w.0.join (below (take c.args.p (list c.loop-at.reader)) c.args.rank) c.in_ok-more.more.items
    (c.in_ok-more.ensures.output w.0.join (stands_over (list c.args.reader.now) (list c.loop-at.reader) c.args.p (get_or c.args.ats.now c.loop-at.at-index 0) c.args.rank w.0.join c.requires.within c.loop-at.invariant.moves.kept w.2))

pub returns-in_err-all-clause-moves : goal.returns-in_err-all-clause-moves
returns-in_err-all-clause-moves g c =
    moves_trans g.R.Reader.list g.R.Reader.floor (g.C.RangeCache.left (c.args.rank + 1)) c.args.reader.now c.loop-at.reader c.read_join.new.reader
    (g.met.C.RangeCache.left_trans (c.args.rank + 1) c.args.reader.now c.loop-at.reader c.read_join.new.reader) c.loop-at.invariant.moves c.read_join.ensures.moves

pub loop-at-preserved : goal.loop-at-preserved
loop-at-preserved g c =
    let list = g.R.Reader.list in
    let before = c.loop-at.invariant in
    let w = listed_stands (list c.args.reader.now) c.args.p c.args.range.now c.args.rank c.args.ats.now c.loop-at.at-index c.requires.within c.requires.listed c.loop-at-test.true in
    let stands = stands_over (list c.args.reader.now) (list c.loop-at.reader) c.args.p (get_or c.args.ats.now c.loop-at.at-index 0) c.args.rank w.0.join c.requires.within before.moves.kept w.2 in
    let more_is : c.in_ok-more.more.items ≡ pairs_within c.args.range.now (out w.0.join (below (take c.args.p (list c.args.reader.now)) c.args.rank)) =
    output_over (list c.args.reader.now) (list c.loop-at.reader) c.args.p (get_or c.args.ats.now c.loop-at.at-index 0) c.args.rank c.args.range.now c.in_ok-more.more.items c.requires.within before.moves.kept c.in_ok-more.ensures.output w.0.join w.2 in
    record {
      output =
          c.in_ok-all.ensures
          ∙ (λ i. merged (before.output i) (more_is i))
          ∙ sym (with_parts_more c.args.range.now (reached c.args.range.now c.args.rank (joins_of (take c.args.p (list c.args.reader.now)))) (below (take c.args.p (list c.args.reader.now)) c.args.rank) c.args.pairs.items c.loop-at.at-index w.0 w.1);
      ascends = subst Ascends (sym c.in_ok-all.ensures) (ascending-merged c.loop-at.all.items c.in_ok-more.more.items before.ascends);
      moves = moves_trans list g.R.Reader.floor (g.C.RangeCache.left (c.args.rank + 1)) c.args.reader.now c.loop-at.reader c.read_join.new.reader
          (g.met.C.RangeCache.left_trans (c.args.rank + 1) c.args.reader.now c.loop-at.reader c.read_join.new.reader) before.moves c.read_join.ensures.moves;
      entered = c.read_join.ensures.moves.entered before.entered;
      counted = omega (arith, before.counted, c.read_join.ensures.counted);
      cost =
          let all = ap length c.in_ok-all.ensures in
          let fewer = merged_fewer c.loop-at.all.items c.in_ok-more.more.items in
          let had = before.cost in
          let more = c.in_ok-more.ensures.cost in
          omega (arith, all, fewer, had, more);
      spent =
          joins_spend_more (λ x y at j added. g.C.RangeCache.cost_one x y at c.args.rank c.args.p c.args.range.now j added) c.args.reader.now c.loop-at.reader c.read_join.new.reader
          (reached c.args.range.now c.args.rank (joins_of (take c.args.p (list c.args.reader.now)))) c.loop-at.at-index w.0 (c.loop-at.steps - c.args.steps.now) (c.read_join.new.steps - c.loop-at.steps) (c.read_join.new.steps - c.args.steps.now)
          (omega (arith, before.counted, c.read_join.ensures.counted)) w.1 before.spent
          (subst (λ at. g.C.RangeCache.cost_one c.loop-at.reader c.read_join.new.reader at c.args.rank c.args.p c.args.range.now w.0.join (c.read_join.new.steps - c.loop-at.steps)) w.3 (c.in_ok-more.ensures.spent w.0.join stands));
    }
