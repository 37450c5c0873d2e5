use Rattle.std.proofs.Common.{◌≡◌, suc, ◌+◌, take_all, sym, subst, ◌∙◌, arith}
use Rattle.std.proofs.lemmas.Bool.{both_ways}
use Rattle.semantics.proofs.GraphReadings.{AreVertices-get_or}
use Rattle.rank_order.specs.Walks.{AreDistances}
use Rattle.rank_order.proofs.DistanceMarks.{IsMarked, IsMarked-mark_more, IsMarked-skip_more, AreDistances-round}
use Rattle.rank_order.proofs.distances.mark_round.Goals as goal
use Rattle.rank_order.proofs.distances.mark_round.Goals.{then-distances-reader-eq0+then-is_at, else-distances-reader-eq0, else-distances-reader-eq0-via-then-distances-reader-eq0+else-is_at, else-distances-reader-eq0-via-else-distances-reader-eq0}

pub offset_bounds-distances-reader : goal.offset_bounds-distances-reader
offset_bounds-distances-reader c =
    let ends = AreVertices-get_or _ _ _ (0, 0) c.requires.ends c.loop-reader-test.true in omega (arith, ends.0)

pub bounds-distances-reader : goal.bounds-distances-reader
bounds-distances-reader c =
    let ends = AreVertices-get_or _ _ _ (0, 0) c.requires.ends c.loop-reader-test.true in omega (arith, ends.0)

pub is_at-requires : goal.is_at-requires
is_at-requires c =
    let ends = AreVertices-get_or _ _ _ (0, 0) c.requires.ends c.loop-reader-test.true in omega (arith, ends.1)

pub offset_bounds-distances-reader-then-is_at : goal.offset_bounds-distances-reader-then-is_at
offset_bounds-distances-reader-then-is_at c =
    let ends = AreVertices-get_or _ _ _ (0, 0) c.requires.ends c.loop-reader-test.true in omega (arith, ends.0)

pub bounds-distances-reader-then-is_at : goal.bounds-distances-reader-then-is_at
bounds-distances-reader-then-is_at c =
    let ends = AreVertices-get_or _ _ _ (0, 0) c.requires.ends c.loop-reader-test.true in omega (arith, ends.0)

pub loop-reader-preserved : goal.loop-reader-preserved
loop-reader-preserved c =
    elim c.if-distances-reader-eq0.branch [
      | then-distances-reader-eq0+then-is_at w ↦
          (let near = sym w.is_at.ensures ∙ w.if-is_at.true in
          rw w.distances-is
          (IsMarked-mark_more c.args.goal c.args.steps c.args.distances.now c.args.edges.now c.loop-reader.reader-index _ c.loop-reader.distances
          c.loop-reader-test.true c.requires.ends c.loop-reader.invariant w.if-distances-reader-eq0.true near (omega arith)))
      | else-distances-reader-eq0 w ↦
          rw w.distances-is
          (IsMarked-skip_more c.args.goal c.args.steps c.args.distances.now c.args.edges.now c.loop-reader.reader-index c.loop-reader.distances
          c.loop-reader-test.true c.requires.ends c.loop-reader.invariant
          (λ z t. elim w.else-distances-reader-eq0.branch [
            | else-distances-reader-eq0-via-then-distances-reader-eq0+else-is_at w' ↦ both_ways _ (sym w'.is_at.ensures ∙ w'.if-is_at.false) t
            | else-distances-reader-eq0-via-else-distances-reader-eq0 w' ↦ w'.if-distances-reader-eq0.false z
          ]))
    ]

pub returns : goal.returns
returns c =
    let all = take_all c.loop-reader.reader-index c.args.edges.now c.loop-reader-test.false in
    let marked = subst (λ done. IsMarked c.args.goal c.args.steps c.args.distances.now done c.loop-reader.distances) all c.loop-reader.invariant in
    let more : suc c.args.steps ≡ c.args.steps + 1 = omega arith in
    record {
      after = subst (λ k. AreDistances c.args.edges.now c.args.goal k c.loop-reader.distances) more
          (AreDistances-round c.args.edges.now c.args.goal c.args.steps c.args.distances.now c.loop-reader.distances c.requires.ends c.requires.before marked);
    }
