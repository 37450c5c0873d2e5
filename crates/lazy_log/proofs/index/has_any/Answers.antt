use Rattle.std.proofs.Common.{false, subst}
use Rattle.lazy_log.specs.Index.{IsSought}
use Rattle.lazy_log.proofs.IndexLemmas.{all_next, shapes_all}
use Rattle.lazy_log.proofs.index.has_any.Goals as goal

pub returns-then-has : goal.returns-then-has
returns-then-has c = (c.shape-item.result, subst (IsSought c.args.slots.now.keys c.args.found.now c.shape-item.result) c.if-has.true c.in_ok-has.ensures)

pub loop-shape-preserved : goal.loop-shape-preserved
loop-shape-preserved c =
    all_next (λ shape. IsSought c.args.slots.now.keys c.args.found.now shape false) c.args.shapes.now c.loop-shape.shape-index c.shape-item.result c.loop-shape-test.true c.shape-item.is c.loop-shape.invariant
    (subst (IsSought c.args.slots.now.keys c.args.found.now c.shape-item.result) c.if-has.false c.in_ok-has.ensures)

pub returns : goal.returns
returns c = shapes_all c.args.slots.now.keys c.args.found.now c.args.shapes.now c.loop-shape.shape-index c.loop-shape-test.false c.loop-shape.invariant
