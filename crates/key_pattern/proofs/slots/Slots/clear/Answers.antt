use Rattle.std.proofs.Common.{None, slice_set, ap, ◌∙◌, sym, subst, arith}
use Rattle.std.proofs.lemmas.List.{map-set}
use Rattle.std.specs.Option.{option_copied}
use Rattle.key_pattern.specs.Places.{AreSlots, lent_texts}
use Rattle.key_pattern.proofs.PlaceLemmas.{AreSlots-clear}
use Rattle.key_pattern.proofs.slots.Slots.clear.Goals as goal

pub invariant_of-self : goal.invariant_of-self
invariant_of-self c =
    subst AreSlots (sym (map-set option_copied c.self.inside.texts c.from.result None))
    (AreSlots-clear (lent_texts c.self.inside.texts) c.from.result (omega (arith, c.from.ensures)) c.self.invariant)

pub returns : goal.returns
returns c =
    map-set option_copied c.self.inside.texts c.from.result None
    ∙ ap (λ i. slice_set (lent_texts c.self.inside.texts) i None) c.from.ensures
    ∙ ap (λ s. slice_set s c.args.place None) c.self.view_is
