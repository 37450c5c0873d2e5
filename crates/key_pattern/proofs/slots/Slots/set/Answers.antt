use Rattle.std.proofs.Common.{Some, slice_set, ap, ◌∙◌, sym, subst}
use Rattle.std.proofs.lemmas.List.{map-set}
use Rattle.std.specs.Option.{option_copied}
use Rattle.key_pattern.specs.Places.{AreSlots, lent_texts}
use Rattle.key_pattern.proofs.PlaceLemmas.{AreSlots-set}
use Rattle.key_pattern.proofs.slots.Slots.set.Goals as goal

pub invariant_of-self : goal.invariant_of-self
invariant_of-self c =
    subst AreSlots (sym (map-set option_copied c.self.inside.texts c.from.result (Some c.args.text)))
    (AreSlots-set (lent_texts c.self.inside.texts) c.from.result c.args.text.now c.self.invariant c.requires.text)

pub returns : goal.returns
returns c =
    map-set option_copied c.self.inside.texts c.from.result (Some c.args.text)
    ∙ ap (λ i. slice_set (lent_texts c.self.inside.texts) i (Some c.args.text.now)) c.from.ensures
    ∙ ap (λ s. slice_set s c.args.place (Some c.args.text.now)) c.self.view_is
