use Rattle.std.proofs.Common.{◌≤◌, length, map, option_map, refl, ap, ◌∙◌, sym, subst, arith}
use Rattle.std.specs.String.{string_bytes}
use Rattle.std.proofs.lemmas.List.{length-map}
use Rattle.semantics.specs.Patterns.{no_slots}
use Rattle.key_pattern.specs.Places.{AreSlots, owned_texts}
use Rattle.key_pattern.proofs.PlaceLemmas.{few_of_slots, lent_more, lent_all}
use Rattle.key_pattern.proofs.slots.SlotTexts.lend.Goals as goal

pub loop-place-init : goal.loop-place-init
unfolding no_slots
loop-place-init c = refl

pub loop-place-preserved : goal.loop-place-preserved
loop-place-preserved c =
    let own = c.deref-text-items.result.now in
    let places = ap (λ v. length (owned_texts v)) c.deref-text-items.ensures.value ∙ c.self.invariant.places in
    let few : length own ≤ 16 = omega (arith, length-map own (option_map string_bytes), few_of_slots (map (option_map string_bytes) own) places) in
    lent_more own c.loop-place.texts c.loop-place.place c.text-item.result c.lend.result few c.loop-place-test.true c.text-item.is c.lend.ensures c.loop-place.invariant

pub invariant_of-result : goal.invariant_of-result
invariant_of-result c =
    let own = c.deref-text-items.result.now in
    subst AreSlots (sym (lent_all own c.loop-place.texts c.loop-place.place c.loop-place-test.false c.loop-place.invariant ∙ ap owned_texts c.deref-text-items.ensures.value)) c.self.invariant

pub returns-clause-lent : goal.returns-clause-lent
returns-clause-lent c =
    lent_all c.deref-text-items.result.now c.loop-place.texts c.loop-place.place c.loop-place-test.false c.loop-place.invariant
    ∙ ap owned_texts c.deref-text-items.ensures.value ∙ c.self.view_is
