use Rattle.std.proofs.Common.{◌≡◌, refl, arith}
use Rattle.key_pattern.proofs.PlaceLemmas.{same_by_places}
use Rattle.key_pattern.proofs.slots.SlotTexts.is_same.Goals as goal

pub returns : goal.returns
returns c =
    let all : c.loop-place.place ≡ 16 = omega arith in
    (λ _. same_by_places c.args.self.now c.args.other.now c.lend-one.ensures.slots.places c.lend-two.ensures.slots.places (λ k less. c.loop-place.invariant k (omega arith)), λ _. refl)
