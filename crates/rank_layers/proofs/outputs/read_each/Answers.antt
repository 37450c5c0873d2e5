use Rattle.std.proofs.Common.{◌+◌, ◌≤◌, ◌++◌, flat_map, length, take, sym, ap, ◌∙◌, subst, arith}
use Rattle.std.proofs.lemmas.List.{length-append, take_all}
use Rattle.growing_history.proofs.PrefixLemmas.{prefix_length}
use Rattle.semantics.specs.Texts.{pairs_within}
use Rattle.semantics.specs.Outputs.{out}
use Rattle.semantics.specs.States.{below}
use Rattle.join_eval.proofs.MovesLemmas.{moves_refl, moves_trans}
use Rattle.cell_slots.proofs.DeclaredLemmas.{stands_over}
use Rattle.join_eval.proofs.WalkLemmas.{flat_map_more}
use Rattle.rank_layers.proofs.JoinLemmas.{output_over}
use Rattle.rank_layers.proofs.outputs.read_each.Goals as goal

pub loop-part-init : goal.loop-part-init
loop-part-init g c = record {
  output = λ j stands. c.new-pairs.ensures.items;
  moves = moves_refl g.R.Reader.list g.R.Reader.floor (g.C.RangeCache.left (c.args.query.rank + 1)) c.args.reader.now (g.met.C.RangeCache.left_refl (c.args.query.rank + 1) c.args.reader.now);
  entered = c.requires.entered;
  cost = let none = ap length c.new-pairs.ensures.items in omega (arith, none);
}

pub read-requires-clause-within : goal.read-requires-clause-within
read-requires-clause-within g c = omega (arith, c.requires.within, prefix_length (g.R.Reader.list c.args.reader.now) (g.R.Reader.list c.loop-part.reader) c.loop-part.invariant.moves.kept)

pub read-requires-clause-above : goal.read-requires-clause-above
read-requires-clause-above g c = subst (λ n. n ≤ c.args.query.p) (sym c.loop-part.invariant.moves.same_floor) c.requires.above

pub read-requires-clause-entered : goal.read-requires-clause-entered
read-requires-clause-entered g c = c.loop-part.invariant.entered

pub read-requires-clause-stands : goal.read-requires-clause-stands
read-requires-clause-stands g c =
    (c.requires.stands.0, stands_over (g.R.Reader.list c.args.reader.now) (g.R.Reader.list c.loop-part.reader) c.args.query.p c.args.query.at c.args.query.rank c.requires.stands.0 c.requires.within c.loop-part.invariant.moves.kept c.requires.stands.1)

pub loop-part-preserved : goal.loop-part-preserved
loop-part-preserved g c =
    let list = g.R.Reader.list in
    let before = c.loop-part.invariant in
    record {
      output = λ j stands.
          c.in_ok-pairs.ensures
          ∙ (λ i. before.output j stands i
          ++ output_over (list c.args.reader.now) (list c.loop-part.reader) c.args.query.p c.args.query.at c.args.query.rank (g.C.RangeCache.range_of c.part-item.result) c.in_ok-more.more.items c.requires.within before.moves.kept c.in_ok-more.ensures.output j stands i)
          ∙ sym (flat_map_more (λ part. pairs_within (g.C.RangeCache.range_of part) (out j (below (take c.args.query.p (list c.args.reader.now)) c.args.query.rank))) c.args.parts.now c.loop-part.part-index c.part-item.result c.loop-part-test.true c.part-item.is);
      moves = moves_trans list g.R.Reader.floor (g.C.RangeCache.left (c.args.query.rank + 1)) c.args.reader.now c.loop-part.reader c.read.new.reader
          (g.met.C.RangeCache.left_trans (c.args.query.rank + 1) c.args.reader.now c.loop-part.reader c.read.new.reader) before.moves c.read.ensures.moves;
      entered = c.read.ensures.moves.entered before.entered;
      cost =
          let had = before.cost in
          let more = c.in_ok-more.ensures.cost in
          let all = ap length c.in_ok-pairs.ensures ∙ length-append c.loop-part.pairs.items c.in_ok-more.more.items in
          omega (arith, had, more, all);
    }

pub returns-in_err-more-clause-moves : goal.returns-in_err-more-clause-moves
returns-in_err-more-clause-moves g c =
    moves_trans g.R.Reader.list g.R.Reader.floor (g.C.RangeCache.left (c.args.query.rank + 1)) c.args.reader.now c.loop-part.reader c.read.new.reader
    (g.met.C.RangeCache.left_trans (c.args.query.rank + 1) c.args.reader.now c.loop-part.reader c.read.new.reader) c.loop-part.invariant.moves c.read.ensures.moves

pub returns-in_err-pairs-clause-moves : goal.returns-in_err-pairs-clause-moves
returns-in_err-pairs-clause-moves g c =
    moves_trans g.R.Reader.list g.R.Reader.floor (g.C.RangeCache.left (c.args.query.rank + 1)) c.args.reader.now c.loop-part.reader c.read.new.reader
    (g.met.C.RangeCache.left_trans (c.args.query.rank + 1) c.args.reader.now c.loop-part.reader c.read.new.reader) c.loop-part.invariant.moves c.read.ensures.moves

pub returns-clause-output : goal.returns-clause-output
returns-clause-output g c = λ j stands.
    c.loop-part.invariant.output j stands
    ∙ ap (flat_map (λ part. pairs_within (g.C.RangeCache.range_of part) (out j (below (take c.args.query.p (g.R.Reader.list c.args.reader.now)) c.args.query.rank)))) (take_all c.loop-part.part-index c.args.parts.now c.loop-part-test.false)
