use Rattle.std.proofs.Common.{ap, ◌∙◌, ◌++◌, ◌∷◌, []}
use Rattle.key_space.proofs.BoundLemmas.{just_bounds}
use Rattle.key_space.proofs.range.Range.just.Goals as goal

pub invariant_of-result : goal.invariant_of-result
invariant_of-result c =
    just_bounds c.args.key.now c.in_ok-low.low c.in_ok-high.high c.text.ensures.is_key (c.in_ok-low.ensures ∙ c.place.ensures.place)
    (c.in_ok-high.ensures ∙ ap (λ t. t ++ 0 ∷ []) c.text.ensures.text)
