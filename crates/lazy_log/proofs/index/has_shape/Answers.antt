use Rattle.std.proofs.Common.{subst, ◌∙◌}
use Rattle.key_pattern.specs.SlotPlaces.{HaveSamePlaces}
use Rattle.lazy_log.proofs.IndexLemmas.{shape_read}
use Rattle.lazy_log.proofs.index.has_shape.Goals as goal

pub returns-then-has_places_of : goal.returns-then-has_places_of
returns-then-has_places_of c = λ _.
    shape_read c.args.shapes.now c.args.slots.now c.shape-item.result c.loop-shape.shape-index c.loop-shape-test.true
    (subst (HaveSamePlaces c.args.slots.now) (c.lend-other.ensures.lent ∙ c.shape-item.is)
    (subst (λ s. HaveSamePlaces s c.lend-other.result) c.lend-lent.ensures.lent (c.has_places_of.ensures c.if-has_places_of.true)))
