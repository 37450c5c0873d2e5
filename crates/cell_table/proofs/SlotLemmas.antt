-- Slots by their numbers, and the places that they keep.
use Rattle.std.proofs.Common.{◌≡◌, ◌≢◌, ℕ, zero, suc, ◌+◌, ◌<◌, ◌≤◌, List, length, replicate, slice_get, Option, Some, None, ◌⊎◌, inl, inr, refl, sym, ap, ◌∙◌, subst, arith}
use Rattle.std.specs.Option.{option_and_then}
use Rattle.std.proofs.lemmas.Bool.{cases_eq}
use Rattle.std.proofs.lemmas.Option.{none-some, same_Some, slice_get_within}
use Rattle.std.proofs.lemmas.List.{length-replicate}
use Rattle.semantics.specs.Texts.{Range}
use Rattle.cell_slots.specs.declared.slot.Slot.{Slot}
use Rattle.cell_slots.specs.declared.slot.Slot.TheVariants.{Free}
use Rattle.cell_slots.specs.Places.{KeepsPlace}
use Rattle.cell_slots.specs.Slots.{HasFree, place_at, place_of}
use Rattle.cell_slots.proofs.PlaceLemmas.{place_from_slot}
use Rattle.cell_table.specs.Stores.{AreSlots}

-- ---- places

-- a slot that keeps a place
pub record Keeper (slots : List Slot) (id at : ℕ) (range : Range) : Type 0 where
  pub slot : Slot
  pub stands : slice_get slots id ≡ Some slot
  pub place : place_of slot ≡ Some (at, range)

keeper_by : (slots : List Slot) (id at : ℕ) (range : Range) (o : Option Slot) → slice_get slots id ≡ o → KeepsPlace (place_at slots) id at range → Keeper slots id at range
keeper_by slots id at range None e h = absurd (none-some (at, range) (sym (ap (option_and_then place_of) e) ∙ h))
keeper_by slots id at range (Some slot) e h = record { slot = slot; stands = e; place = sym (place_from_slot place_of slots id slot e) ∙ h }

-- where a place is kept, a slot keeps it
pub keeper : (slots : List Slot) (id at : ℕ) (range : Range) → KeepsPlace (place_at slots) id at range → Keeper slots id at range
keeper slots id at range h = keeper_by slots id at range (slice_get slots id) refl h

-- ---- free slots

-- so many free slots, of which none is below 0
pub free_slots : (count : ℕ) → count ≤ 65536 → AreSlots (replicate count Free) 0
free_slots count few = record { few = subst (λ n. n ≤ 65536) (sym (length-replicate count Free)) few; upto = omega arith; taken = λ id less. absurd (omega arith) }

taken_by : (slots : List Slot) (least id : ℕ) → AreSlots slots least → slice_get slots least ≢ Some Free → (id ≡ least) ⊎ (id ≡ least → ⊥) → id < least + 1 → slice_get slots id ≢ Some Free
taken_by slots least id h here (inl e) less = λ free. here (subst (λ (k : ℕ). slice_get slots k ≡ Some Free) e free)
taken_by slots least id h here (inr apart) less = h.taken id (omega arith)

-- where the least slot that may be free is taken, none is free below the next
pub taken_more : (slots : List Slot) (least : ℕ) → AreSlots slots least → least < length slots → slice_get slots least ≢ Some Free → AreSlots slots (least + 1)
taken_more slots least h less here = record { few = h.few; upto = omega arith; taken = λ id lower. taken_by slots least id h here (cases_eq id least) lower }

-- where none is free below the number of slots, none is free
pub none_free : (slots : List Slot) (least : ℕ) → AreSlots slots least → length slots ≤ least → HasFree slots → ⊥
none_free slots least h all free = let inside : free.id < length slots = slice_get_within slots free.id Free free.free in h.taken free.id (omega arith) free.free

replicated : {A : Type 0} (n : ℕ) (x y : A) (k : ℕ) → slice_get (replicate n x) k ≡ Some y → x ≡ y
replicated zero x y k h = absurd (none-some y h)
replicated (suc n) x y zero h = same_Some x y h
replicated (suc n) x y (suc k) h = replicated n x y k h

-- free slots keep no place
pub free_keep_none : (count id at : ℕ) (range : Range) → KeepsPlace (place_at (replicate count Free)) id at range → ⊥
free_keep_none count id at range h =
    let k = keeper (replicate count Free) id at range h in
    none-some (at, range) (ap place_of (replicated count Free k.slot id k.stands) ∙ k.place)
