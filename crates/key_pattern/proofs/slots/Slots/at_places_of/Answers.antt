use Rattle.std.proofs.Common.{◌+◌, refl, ap, subst, sym, ◌∙◌, arith}
use Rattle.semantics.specs.Patterns.{text_at}
use Rattle.key_pattern.proofs.SlotPlaceLemmas.{KeptUpTo, none_yet, after_place, all_places}
use Rattle.key_pattern.proofs.slots.Slots.at_places_of.Goals as goal

pub loop-place-init : goal.loop-place-init
loop-place-init c = subst (λ k. KeptUpTo c.args.self.now c.args.others.now 0 k) (sym c.copy-kept.ensures.copy) (none_yet c.args.self.now c.args.others.now c.copy-kept.ensures.slots.places)

pub loop-place-preserved : goal.loop-place-preserved
loop-place-preserved c =
    subst (λ k. KeptUpTo c.args.self.now c.args.others.now (c.loop-place.place + 1) k) (sym c.keep_at.ensures)
    (after_place c.args.self.now c.args.others.now c.loop-place.kept c.loop-place.place (text_at c.loop-place.place c.args.others.now) (omega arith) refl c.loop-place.invariant)

pub returns-clause-at : goal.returns-clause-at
returns-clause-at c = all_places c.args.self.now c.args.others.now c.loop-place.place c.loop-place.kept (omega arith) c.loop-place.invariant

pub returns-clause-places : goal.returns-clause-places
returns-clause-places c = c.loop-place.invariant.long
