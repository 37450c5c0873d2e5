use Rattle.std.proofs.Common.{◌++◌, ◌∷◌, [], sym, ap, subst, ◌∙◌}
use Rattle.lazy_log.specs.Index.{HasShape}
use Rattle.lazy_log.proofs.IndexLemmas.{shape_last, shape_push}
use Rattle.lazy_log.proofs.index.add_shape.Goals as goal

pub returns-then-has_shape-clause-here : goal.returns-then-has_shape-clause-here
returns-then-has_shape-clause-here c = subst (λ ss. HasShape ss c.args.slots.now) c.as_slice.ensures.value (c.has_shape.ensures c.if-has_shape.true)

pub returns-clause-here : goal.returns-clause-here
returns-clause-here c =
    subst (λ ss. HasShape ss c.args.slots.now) (sym (c.in_ok-push.ensures.items ∙ ap (λ s. c.args.shapes.now.items ++ s ∷ []) c.in_ok-copy.ensures))
    (shape_last c.args.shapes.now.items c.args.slots.now)

pub returns-clause-others : goal.returns-clause-others
returns-clause-others c = λ other h. subst (λ ss. HasShape ss other) (sym c.in_ok-push.ensures.items) (shape_push c.args.shapes.now.items c.in_ok-copy.copy other h)
