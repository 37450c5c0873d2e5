use Rattle.std.proofs.Common.{◌≡◌, refl, arith}
use Rattle.key_pattern.proofs.PlaceLemmas.{same_by_places}
use Rattle.join_rows.proofs.need.are_same_slots.Goals as goal

pub returns : goal.returns
returns c =
    let all : c.loop-place.place ≡ 16 = omega arith in
    (λ _. same_by_places c.args.slots.now c.args.others.now c.lend-one.ensures.slots.places c.copy-two.ensures.slots.places (λ k less. c.loop-place.invariant k (omega arith)), λ _. refl)
