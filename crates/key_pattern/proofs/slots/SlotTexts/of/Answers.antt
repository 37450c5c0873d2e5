use Rattle.std.proofs.Common.{[], ◌∷◌, None, map, take, option_map, ap, ◌∙◌, sym, subst}
use Rattle.std.specs.Option.{option_copied}
use Rattle.std.specs.String.{string_bytes}
use Rattle.std.proofs.lemmas.List.{map-append}
use Rattle.key_pattern.specs.Places.{AreSlots, padded}
use Rattle.key_pattern.proofs.PlaceLemmas.{all_owned, copied_more}
use Rattle.key_pattern.proofs.slots.SlotTexts.of.Goals as goal

pub loop-text-preserved : goal.loop-text-preserved
loop-text-preserved c =
    ap (map (option_map string_bytes)) c.in_ok-push.ensures.items
    ∙ map-append (option_map string_bytes) c.loop-text.texts.items (c.in_ok-own.field-0 ∷ [])
    ∙ copied_more option_copied (take c.from-used.result c.slots.inside.texts) (map (option_map string_bytes) c.loop-text.texts.items) c.loop-text.text-index None
    (option_map string_bytes c.in_ok-own.field-0) c.loop-text-test.true c.loop-text.invariant c.in_ok-own.ensures

pub invariant_of-result : goal.invariant_of-result
invariant_of-result c =
    let is = all_owned c.loop-text.texts.items c.slots.inside.texts c.from-used.result c.loop-text.text-index c.args.slots.now c.loop-text-test.false c.loop-text.invariant c.slots.view_is
    (ap (λ n. padded (take n c.args.slots.now)) c.from-used.ensures ∙ c.used.ensures.all) in
    subst AreSlots (c.slots.view_is ∙ sym is) c.slots.invariant

pub returns : goal.returns
returns c =
    all_owned c.loop-text.texts.items c.slots.inside.texts c.from-used.result c.loop-text.text-index c.args.slots.now c.loop-text-test.false c.loop-text.invariant c.slots.view_is
    (ap (λ n. padded (take n c.args.slots.now)) c.from-used.ensures ∙ c.used.ensures.all)
