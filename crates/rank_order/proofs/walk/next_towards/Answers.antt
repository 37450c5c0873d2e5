use Rattle.std.proofs.Common.{◌+◌, take, take_all, sym, subst, ◌∙◌, arith}
use Rattle.std.proofs.lemmas.Bool.{both_ways}
use Rattle.semantics.proofs.GraphReadings.{AreVertices-get_or}
use Rattle.rank_order.proofs.LeastWalks.{IsLeastSoFar, IsLeastSoFar-step_more, IsLeastSoFar-other_more, next-from_IsLeastSoFar}
use Rattle.rank_order.proofs.walk.next_towards.Goals as goal
use Rattle.rank_order.proofs.walk.next_towards.Goals.{then-reader-vertex+then-is_at, else-reader-vertex, else-reader-vertex-via-then-reader-vertex+else-is_at, else-reader-vertex-via-else-reader-vertex}

pub is_at-requires : goal.is_at-requires
is_at-requires c =
    let ends = AreVertices-get_or _ _ _ (0, 0) c.requires.ends c.loop-reader-test.true in omega (arith, ends.1)

pub loop-reader-preserved : goal.loop-reader-preserved
loop-reader-preserved c =
    elim c.if-reader-vertex.branch [
      | then-reader-vertex+then-is_at w ↦
          subst (λ o. IsLeastSoFar c.args.distances.now c.args.goal c.args.steps c.args.vertex (take (c.loop-reader.reader-index + 1) c.args.edges.now) o) (sym w.least-is)
          (IsLeastSoFar-step_more c.args.distances.now c.args.goal c.args.steps c.args.vertex c.args.edges.now c.loop-reader.reader-index c.loop-reader.least w.lesser.result
          c.loop-reader-test.true c.loop-reader.invariant w.if-reader-vertex.true (sym w.is_at.ensures ∙ w.if-is_at.true) w.lesser.ensures)
      | else-reader-vertex w ↦
          subst (λ o. IsLeastSoFar c.args.distances.now c.args.goal c.args.steps c.args.vertex (take (c.loop-reader.reader-index + 1) c.args.edges.now) o) (sym w.least-is)
          (IsLeastSoFar-other_more c.args.distances.now c.args.goal c.args.steps c.args.vertex c.args.edges.now c.loop-reader.reader-index c.loop-reader.least
          c.loop-reader-test.true c.loop-reader.invariant
          (λ r t. elim w.else-reader-vertex.branch [
            | else-reader-vertex-via-then-reader-vertex+else-is_at w' ↦ both_ways _ (sym w'.is_at.ensures ∙ w'.if-is_at.false) t
            | else-reader-vertex-via-else-reader-vertex w' ↦ w'.if-reader-vertex.false r
          ]))
    ]

pub returns : goal.returns
returns c =
    let all = take_all c.loop-reader.reader-index c.args.edges.now c.loop-reader-test.false in
    next-from_IsLeastSoFar c.args.edges.now c.args.distances.now c.args.goal c.args.steps c.args.vertex c.loop-reader.least
    (subst (λ done. IsLeastSoFar c.args.distances.now c.args.goal c.args.steps c.args.vertex done c.loop-reader.least) all c.loop-reader.invariant)
