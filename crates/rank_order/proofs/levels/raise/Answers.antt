use Rattle.std.proofs.Common.{get_or, take_all, subst, arith}
use Rattle.semantics.proofs.GraphReadings.{AreVertices-get_or}
use Rattle.rank_order.proofs.RankRaises.{IsRaised, IsRaised-more, raised-from_IsRaised, greater-read}
use Rattle.rank_order.proofs.levels.raise.Goals as goal

pub index-requires : goal.index-requires
index-requires c =
    let ends = AreVertices-get_or _ _ _ (0, 0) c.requires.ends c.loop-reader-test.true in
    omega (arith, ends.0, c.loop-reader.found.ok.0)

pub offset_bounds-numbers-read : goal.offset_bounds-numbers-read
offset_bounds-numbers-read c =
    let ends = AreVertices-get_or _ _ _ (0, 0) c.requires.ends c.loop-reader-test.true in omega (arith, ends.1)

pub bounds-numbers-read : goal.bounds-numbers-read
bounds-numbers-read c =
    let ends = AreVertices-get_or _ _ _ (0, 0) c.requires.ends c.loop-reader-test.true in omega (arith, ends.1)

pub index_mut-requires : goal.index_mut-requires
index_mut-requires c =
    let ends = AreVertices-get_or _ _ _ (0, 0) c.requires.ends c.loop-reader-test.true in
    omega (arith, ends.0, c.loop-reader.found.ok.0)

pub loop-reader-preserved : goal.loop-reader-preserved
loop-reader-preserved c =
    IsRaised-more c.args.numbers.now c.args.edges.now c.loop-reader.reader-index c.max.result c.loop-reader.found.items
    c.loop-reader-test.true c.requires.ends c.loop-reader.invariant
    (let ends = AreVertices-get_or _ _ _ (0, 0) c.requires.ends c.loop-reader-test.true in
    greater-read c.loop-reader.found.items c.args.numbers.now (get_or c.args.edges.now c.loop-reader.reader-index (0, 0)).0 (get_or c.args.edges.now c.loop-reader.reader-index (0, 0)).1
    c.index.result.now c.max.result (omega (arith, ends.0, c.loop-reader.invariant.same)) c.index.ensures c.max.ensures)

pub returns : goal.returns
returns c =
    let all = take_all c.loop-reader.reader-index c.args.edges.now c.loop-reader-test.false in
    raised-from_IsRaised c.args.edges.now c.args.numbers.now c.loop-reader.found.items c.requires.ends
    (subst (λ done. IsRaised c.args.numbers.now done c.loop-reader.found.items) all c.loop-reader.invariant)
