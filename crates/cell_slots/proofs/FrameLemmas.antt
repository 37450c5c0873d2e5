-- How readers leave slots, and readers that are as they were.
use Rattle.std.proofs.Common.{◌≡◌, ℕ, zero, suc, ◌+◌, ◌<◌, ◌≤◌, List, [], ◌∷◌, length, slice_get, slice_set, Option, Some, ◌⊎◌, inl, inr, refl, sym, ap, ◌∙◌, subst, arith}
use Rattle.std.specs.Option.{option_and_then}
use Rattle.std.proofs.lemmas.Bool.{cases_eq}
use Rattle.std.proofs.lemmas.Option.{same_Some, slice_get_within}
use Rattle.std.proofs.lemmas.List.{length-set}
use Rattle.semantics.specs.Texts.{Range}
use Rattle.semantics.specs.Histories.{History}
use Rattle.join_eval.specs.Moves.{Moves}
use Rattle.join_eval.proofs.MovesLemmas.{moves_refl}
use Rattle.kept_ranges.specs.Sound.{KeptRange}
use Rattle.cell_slots.specs.declared.slot.Slot.{Slot}
use Rattle.cell_slots.specs.declared.slot.Slot.TheVariants.{Free, Lent, Held}
use Rattle.cell_slots.specs.Slots.{Holdings, with_slot, with_lent, place_of, place_at, KeepPlaces, IsLeft, Frame}
use Rattle.cell_slots.specs.FrameLaws.{frame_refl}

-- ---- one element of a list is set

-- an element that is set stands there
pub get-set_same : {A : Type 0} (xs : List A) (i : ℕ) (x : A) → i < length xs → slice_get (slice_set xs i x) i ≡ Some x
get-set_same [] i x less = absurd (omega arith)
get-set_same (y ∷ ys) zero x less = refl
get-set_same (y ∷ ys) (suc i) x less = get-set_same ys i x (omega arith)

-- every other one stays
pub get-set_other : {A : Type 0} (xs : List A) (i k : ℕ) (x : A) → (k ≡ i → ⊥) → slice_get (slice_set xs i x) k ≡ slice_get xs k
get-set_other [] i k x apart = refl
get-set_other (y ∷ ys) zero zero x apart = absurd (apart refl)
get-set_other (y ∷ ys) zero (suc k) x apart = refl
get-set_other (y ∷ ys) (suc i) zero x apart = refl
get-set_other (y ∷ ys) (suc i) (suc k) x apart = get-set_other ys i k x (λ e. apart (ap suc e))

-- ---- frames

left_weaker : (top more : ℕ) (slot : Slot) → top ≤ more → IsLeft more slot → IsLeft top slot
left_weaker top more Free up left = left
left_weaker top more (Lent at range) up left = left
left_weaker top more (Held at s) up left = omega (arith, up, left)

-- what a reader of a lesser top rank leaves
pub frame_weaker : (top more : ℕ) (a b : Holdings) → top ≤ more → Frame top a b → Frame more a b
frame_weaker top more a b up frame = record {
  same_count = frame.same_count;
  left = λ id slot is left. frame.left id slot is (left_weaker top more slot up left);
  places = frame.places;
  lent = frame.lent;
  unused = λ none. frame.unused (omega (arith, up, none));
  same_setting = frame.same_setting;
}

-- cells of a reader that is as it was
pub frame_of_same : {S : Type 0} (holds : S → Holdings) (top : ℕ) (a b : S) → b ≡ a → Frame top (holds a) (holds b)
frame_of_same holds top a b same = subst (λ x. Frame top (holds a) (holds x)) (sym same) (frame_refl top (holds a))

-- a reader that is as it was
pub moves_same : {S : Type 0} (list : S → History) (floor : S → ℕ) (a b : S) → b ≡ a → Moves list floor (λ x y. y ≡ x) a b
moves_same list floor a b same = subst (Moves list floor (λ x y. y ≡ x) a) (sym same) (moves_refl list floor (λ x y. y ≡ x) a refl)

-- ---- a slot that is lent and given back

-- nothing that is left of rank above what a slot holds is in the slot
not_left : (rank at id : ℕ) (was : KeptRange) (slot : Slot) (slots : List Slot) → was.rank ≤ rank → slice_get slots id ≡ Some (Held at was) → slice_get slots id ≡ Some slot → IsLeft (rank + 1) slot → ⊥
not_left rank at id was slot slots least held is left =
    let same : Held at was ≡ slot = same_Some (Held at was) slot (sym held ∙ is) in
    let above : rank + 1 ≤ was.rank = subst (IsLeft (rank + 1)) (sym same) left in
    omega (arith, above, least)

-- what a slot holds is no place that is lent
held_not_lent : (at from : ℕ) (s : KeptRange) (range : Range) → ◌≡◌ {A = Option Slot} (Some (Held at s)) (Some (Lent from range)) → ⊥
held_not_lent at from s range e = cc

-- the places stay where a kept range is taken out of its slot, others are worked on, and it is put back for the same range
pub places_around : (before lent mid after : List Slot) (id at : ℕ) (was s : KeptRange) (range : Range) → slice_get before id ≡ Some (Held at was) → lent ≡ slice_set before id (Lent at range) → KeepPlaces lent mid → id < length mid →
    after ≡ slice_set mid id (Held at s) → s.range ≡ was.range → KeepPlaces before after
places_around before lent mid after id at was s range held is places inside set same = λ k place kept. by k place kept (cases_eq k id)
  where
    by : (k : ℕ) (place : ℕ × Range) → place_at before k ≡ Some place → (k ≡ id) ⊎ (k ≡ id → ⊥) → place_at after k ≡ Some place
    by k place kept (inl e) =
        ap (place_at after) e ∙ ap (λ o. option_and_then place_of o) (ap (λ slots. slice_get slots id) set ∙ get-set_same mid id (Held at s) inside)
        ∙ ap (λ (r : Range). Some (at, r)) same ∙ sym (ap (λ o. option_and_then place_of o) held) ∙ ap (place_at before) (sym e) ∙ kept
    by k place kept (inr apart) =
        ap (λ o. option_and_then place_of o) (ap (λ slots. slice_get slots k) set ∙ get-set_other mid id k (Held at s) apart)
        ∙ places k place (ap (λ o. option_and_then place_of o) (ap (λ slots. slice_get slots k) is ∙ get-set_other before id k (Lent at range) apart) ∙ kept)

-- taking a kept range out of a slot, working below its rank, and giving it back for the same range leaves what a reader of one rank more leaves
pub frame_around : (before lent mid after : Holdings) (id at rank : ℕ) (was s : KeptRange) (range : Range) →
    slice_get before.slots id ≡ Some (Held at was) → was.rank ≤ rank → lent ≡ with_lent id at range before → Frame rank lent mid → after ≡ with_slot id (Held at s) mid →
    s.range ≡ was.range → Frame (rank + 1) before after
frame_around before lent mid after id at rank was s range held least lent_is frame after_is same =
    let is : lent.slots ≡ slice_set before.slots id (Lent at range) = ap (λ (c : Holdings). c.slots) lent_is in
    let set : after.slots ≡ slice_set mid.slots id (Held at s) = ap (λ (c : Holdings). c.slots) after_is in
    let mid_in : id < length mid.slots = omega (arith, slice_get_within before.slots id (Held at was) held, frame.same_count, ap length is, length-set before.slots id (Lent at range)) in
    record {
      same_count = ap length set ∙ length-set mid.slots id (Held at s) ∙ frame.same_count ∙ ap length is ∙ length-set before.slots id (Lent at range);
      left = λ k slot at_k left. elim (cases_eq k id) [
        | inl e ↦ absurd (not_left rank at id was slot before.slots least held (ap (slice_get before.slots) (sym e) ∙ at_k) left)
        | inr apart ↦
            ap (λ slots. slice_get slots k) set ∙ get-set_other mid.slots id k (Held at s) apart
            ∙ frame.left k slot (ap (λ slots. slice_get slots k) is ∙ get-set_other before.slots id k (Lent at range) apart ∙ at_k) (left_weaker rank (rank + 1) slot (omega arith) left)
      ];
      places = places_around before.slots lent.slots mid.slots after.slots id at was s range held is frame.places mid_in set same;
      lent = λ k from kept at_k. elim (cases_eq k id) [
        | inl e ↦ absurd (held_not_lent at from s kept (sym (ap (λ slots. slice_get slots id) set ∙ get-set_same mid.slots id (Held at s) mid_in) ∙ ap (slice_get after.slots) (sym e) ∙ at_k))
        | inr apart ↦
            sym (ap (λ slots. slice_get slots k) is ∙ get-set_other before.slots id k (Lent at range) apart)
            ∙ frame.lent k from kept (sym (ap (λ slots. slice_get slots k) set ∙ get-set_other mid.slots id k (Held at s) apart) ∙ at_k)
      ];
      unused = λ none. absurd (omega (arith, none));
      same_setting = ap (λ (c : Holdings). c.setting) after_is ∙ frame.same_setting ∙ ap (λ (c : Holdings). c.setting) lent_is;
    }

-- the place that was lent is still there
pub still_lent : (before lent mid : Holdings) (id at rank : ℕ) (slot : Slot) (range : Range) →
    slice_get before.slots id ≡ Some slot → lent ≡ with_lent id at range before → Frame rank lent mid → slice_get mid.slots id ≡ Some (Lent at range)
still_lent before lent mid id at rank slot range held is frame =
    frame.left id (Lent at range) (ap (λ (c : Holdings). slice_get c.slots id) is ∙ get-set_same before.slots id (Lent at range) (slice_get_within before.slots id slot held)) tt

-- what was given back stands there
pub given_back : (mid after : Holdings) (id : ℕ) (slot old : Slot) → slice_get mid.slots id ≡ Some old → after ≡ with_slot id slot mid → slice_get after.slots id ≡ Some slot
given_back mid after id slot old there set = ap (λ (c : Holdings). slice_get c.slots id) set ∙ get-set_same mid.slots id slot (slice_get_within mid.slots id old there)
