-- A directory beside the places that slots keep.
use Rattle.std.proofs.Common.{◌≡◌, ◌≢◌, ℕ, Bool, true, false, cond, not, List, [], ◌∷◌, Contains, ◌⊎◌, inl, inr, sym, ap, ◌∙◌, subst}
use Rattle.std.proofs.lemmas.Bool.{cases_eq, false≢true, false_from_ne_true, not_from_false}
use Rattle.std.proofs.lemmas.Option.{none-some}
use Rattle.semantics.specs.Texts.{Range, Text, same, table_of}
use Rattle.semantics.proofs.PieceLemmas.{same_itself}
use Rattle.semantics.proofs.MemberLemmas.{Has, has_from_contains, contains_from_has, has_filtered, all_from_each}
use Rattle.key_ranges.specs.Ranges.{is_below, is_open, meets}
use Rattle.range_set.specs.Held.{Held as Ranges, are_of_table, is_free, same_range, with_range, without_range}
use Rattle.cell_slots.specs.declared.slot.Slot.{Slot}
use Rattle.cell_slots.specs.Places.{KeepsPlace}
use Rattle.cell_slots.specs.Slots.{MeetsNone, place_at}
use Rattle.cell_slots.proofs.PlaceLemmas.{IsOccupied, IsVacated, KeptByOther, has_kept, kept_left, kept_same, kept_still, kept_taken, meets_sym, one_place, other_bounds}
use Rattle.cell_table.specs.Places.{KeepsAll, Places, Replaces, held_at}
use Rattle.cell_table.specs.Stores.{AreDirected, AreOfTable}

-- ranges that do not meet do so neither way round
apart_sym : (r s : Range) → meets r s ≡ false → meets s r ≡ false
apart_sym r s h = false_from_ne_true (meets s r) (λ m. false≢true (sym h ∙ meets_sym s r m))

-- ---- one range more

in_either : (r : Range) (id : ℕ) (e : Range × ℕ) (es rest : Ranges ℕ) (x : Bool) (f : Range × ℕ) → ((r, id) ≡ f) ⊎ Has (e ∷ es) f → (((r, id) ≡ f) ⊎ Has es f → Has rest f) → Has (cond x ((r, id) ∷ e ∷ es) (e ∷ rest)) f
in_either r id e es rest true f h on = h
in_either r id e es rest false f (inl p) on = inr (on (inl p))
in_either r id e es rest false f (inr (inl p)) on = inl p
in_either r id e es rest false f (inr (inr h)) on = inr (on (inr h))

-- a range stands among ranges with one more if it is this one, or stood there
has_in_with_range : (r : Range) (id : ℕ) (held : Ranges ℕ) (f : Range × ℕ) → ((r, id) ≡ f) ⊎ Has held f → Has (with_range r id held) f
has_in_with_range r id [] f h = h
has_in_with_range r id (e ∷ es) f h = in_either r id e es (with_range r id es) (is_below r.low e.0.low) f h (has_in_with_range r id es f)

-- ---- what a directory lists

-- a place that is kept is listed
pub listed_has : (slots : List Slot) (places : Places) (id at : ℕ) (range : Range) → AreDirected slots places → KeepsPlace (place_at slots) id at range → Has (held_at places at) (range, id)
listed_has slots places id at range d h = has_from_contains (held_at places at) (range, id) (d.listed id at range h)

-- what is listed is kept
pub listed_keeps : (slots : List Slot) (places : Places) (at : ℕ) (e : Range × ℕ) → AreDirected slots places → Has (held_at places at) e → KeepsPlace (place_at slots) e.1 at e.0
listed_keeps slots places at e d h = has_kept (place_at slots) (held_at places) e.1 at e.0 d.kept h

-- a range that meets no place is free among those that are listed
pub free_range : (slots : List Slot) (places : Places) (at : ℕ) (range : Range) → AreDirected slots places → MeetsNone slots at range → is_free (held_at places at) range ≡ true
free_range slots places at range d none = all_from_each (λ (e : Range × ℕ). not (meets e.0 range)) (held_at places at) (λ e h.
    not_from_false (meets e.0 range) (none e.1 e.0 (listed_keeps slots places at e d h)))

-- those that are listed are of a table where all places are
pub listed_of_table : (slots : List Slot) (places : Places) (at : ℕ) (name : Text) → AreDirected slots places → AreOfTable slots at name → are_of_table (held_at places at) name ≡ true
listed_of_table slots places at name d of_table = all_from_each (λ (e : Range × ℕ). same (table_of e.0.low) name) (held_at places at) (λ e h.
    subst (λ (t : Text). same t name ≡ true) (sym (of_table e.1 e.0 (listed_keeps slots places at e d h))) (same_itself name))

-- ---- the places stay

-- slots that keep the same places have the same directory
pub directed_same : (old new : List Slot) (places : Places) → ((id : ℕ) → place_at new id ≡ place_at old id) → AreDirected old places → AreDirected new places
directed_same old new places same d = record {
  listed = λ id at range h. d.listed id at range (sym (same id) ∙ h);
  kept = kept_still (place_at old) (place_at new) (held_at places) same d.kept;
  not_empty = λ id at range h. d.not_empty id at range (sym (same id) ∙ h);
  apart = λ id other at r s h g. d.apart id other at r s (sym (same id) ∙ h) (sym (same other) ∙ g);
}

-- so do directories with the same ranges
pub directed_kept : (slots : List Slot) (old new : Places) → KeepsAll old new → AreDirected slots old → AreDirected slots new
directed_kept slots old new same d = record {
  listed = λ id at range h. subst (λ (held : Ranges ℕ). Contains held (range, id)) (sym (same at)) (d.listed id at range h);
  kept = kept_same (place_at slots) (held_at old) (held_at new) same d.kept;
  not_empty = d.not_empty;
  apart = d.apart;
}

-- ---- a place is left

kept_by : (old new : List Slot) (id q at : ℕ) (r : Range) → IsVacated (place_at old) (place_at new) id → KeepsPlace (place_at new) q at r → (q ≡ id) ⊎ (q ≡ id → ⊥) → KeptByOther (place_at old) id q at r
kept_by old new id q at r left h (inl e) = absurd (none-some (at, r) (sym left.none ∙ subst (λ (k : ℕ). KeepsPlace (place_at new) k at r) e h))
kept_by old new id q at r left h (inr apart) = record { other = apart; before = sym (left.others q apart) ∙ h }

-- what is kept after a place was left was kept by another slot
kept_before : (old new : List Slot) (id q at : ℕ) (r : Range) → IsVacated (place_at old) (place_at new) id → KeepsPlace (place_at new) q at r → KeptByOther (place_at old) id q at r
kept_before old new id q at r left h = kept_by old new id q at r left h (cases_eq q id)

listed_by : (old : List Slot) (places new_places : Places) (id at q a : ℕ) (range r : Range) → AreDirected old places → KeepsPlace (place_at old) id at range → Replaces at (without_range range (held_at places at)) places new_places →
    q ≢ id → KeepsPlace (place_at old) q a r → (a ≡ at) ⊎ (a ≡ at → ⊥) → Has (held_at new_places a) (r, q)
listed_by old places new_places id at q a range r d here replaced apart there (inl e) =
    subst (λ (b : ℕ). Has (held_at new_places b) (r, q)) (sym e)
    (subst (λ (held : Ranges ℕ). Has held (r, q)) (sym replaced.here)
    (let there_at : KeepsPlace (place_at old) q at r = subst (λ (b : ℕ). KeepsPlace (place_at old) q b r) e there in
    has_filtered (λ (f : Range × ℕ). not (same_range range f.0)) (held_at places at) (r, q)
    (not_from_false (same_range range r) (other_bounds range r (d.not_empty id at range here) (d.apart q id at r range there_at here apart)))
    (listed_has old places q at r d there_at)))
listed_by old places new_places id at q a range r d here replaced apart there (inr other) =
    subst (λ (held : Ranges ℕ). Has held (r, q)) (sym (replaced.others a other)) (listed_has old places q a r d there)

-- a directory without the place of a slot is that of the slots without it
pub directed_left : (old new : List Slot) (places new_places : Places) (id at : ℕ) (range : Range) → AreDirected old places → KeepsPlace (place_at old) id at range → IsVacated (place_at old) (place_at new) id →
    Replaces at (without_range range (held_at places at)) places new_places → AreDirected new new_places
directed_left old new places new_places id at range d here left replaced = record {
  listed = λ q a r h. let k = kept_before old new id q a r left h in
      contains_from_has (held_at new_places a) (r, q) (listed_by old places new_places id at q a range r d here replaced k.other k.before (cases_eq a at));
  kept = kept_left cases_eq (place_at old) (place_at new) (held_at places) (held_at new_places) id at range d.kept here left replaced;
  not_empty = λ q a r h. d.not_empty q a r (kept_before old new id q a r left h).before;
  apart = λ q p a r s h g. d.apart q p a r s (kept_before old new id q a r left h).before (kept_before old new id p a s left g).before;
}

-- ---- a place is taken

-- a place is that of the slot that took it, or was kept by another
taken_cases : (old new : List Slot) (id at : ℕ) (range : Range) (q a : ℕ) (r : Range) → IsOccupied (place_at old) (place_at new) id at range → KeepsPlace (place_at new) q a r → (q ≡ id) ⊎ (q ≡ id → ⊥) →
    ((q ≡ id) × (a ≡ at) × (r ≡ range)) ⊎ KeptByOther (place_at old) id q a r
taken_cases old new id at range q a r taken h (inl e) =
    let one = one_place (place_at new) id a at r range (subst (λ (k : ℕ). KeepsPlace (place_at new) k a r) e h) taken.here in inl (e, one.0, one.1)
taken_cases old new id at range q a r taken h (inr apart) = inr (record { other = apart; before = sym (taken.others q apart) ∙ h })

taken_listed_by : (places new_places : Places) (id at q a : ℕ) (range r : Range) → Replaces at (with_range range id (held_at places at)) places new_places →
    ((q ≡ id) × (a ≡ at) × (r ≡ range)) ⊎ Has (held_at places a) (r, q) → (a ≡ at) ⊎ (a ≡ at → ⊥) → Has (held_at new_places a) (r, q)
taken_listed_by places new_places id at q a range r replaced (inl (one, place, same)) b =
    subst (λ (b : ℕ). Has (held_at new_places b) (r, q)) (sym place) (subst (λ (held : Ranges ℕ). Has held (r, q)) (sym replaced.here)
    (has_in_with_range range id (held_at places at) (r, q) (inl (ap (λ (s : Range). (s, id)) (sym same) ∙ ap (λ (k : ℕ). (r, k)) (sym one)))))
taken_listed_by places new_places id at q a range r replaced (inr h) (inl e) =
    subst (λ (b : ℕ). Has (held_at new_places b) (r, q)) (sym e) (subst (λ (held : Ranges ℕ). Has held (r, q)) (sym replaced.here)
    (has_in_with_range range id (held_at places at) (r, q) (inr (subst (λ (b : ℕ). Has (held_at places b) (r, q)) e h))))
taken_listed_by places new_places id at q a range r replaced (inr h) (inr other) = subst (λ (held : Ranges ℕ). Has held (r, q)) (sym (replaced.others a other)) h

-- a place that a slot took meets none of the others
apart_by : (old : List Slot) (places : Places) (id at : ℕ) (range : Range) (q p a : ℕ) (r s : Range) → AreDirected old places → MeetsNone old at range → q ≢ p →
    ((q ≡ id) × (a ≡ at) × (r ≡ range)) ⊎ KeptByOther (place_at old) id q a r → ((p ≡ id) × (a ≡ at) × (s ≡ range)) ⊎ KeptByOther (place_at old) id p a s → meets r s ≡ false
apart_by old places id at range q p a r s d none apart (inl (one, place, same)) (inl (two, place_2, same_2)) = absurd (apart (one ∙ sym two))
apart_by old places id at range q p a r s d none apart (inl (one, place, same)) (inr k) =
    subst (λ (t : Range). meets t s ≡ false) (sym same) (apart_sym s range (none p s (subst (λ (b : ℕ). KeepsPlace (place_at old) p b s) place k.before)))
apart_by old places id at range q p a r s d none apart (inr k) (inl (two, place, same)) =
    subst (λ (t : Range). meets r t ≡ false) (sym same) (none q r (subst (λ (b : ℕ). KeepsPlace (place_at old) q b r) place k.before))
apart_by old places id at range q p a r s d none apart (inr k) (inr m) = d.apart q p a r s k.before m.before apart

open_by : (old : List Slot) (places : Places) (id at : ℕ) (range : Range) (q a : ℕ) (r : Range) → AreDirected old places → is_open range ≡ true → ((q ≡ id) × (a ≡ at) × (r ≡ range)) ⊎ KeptByOther (place_at old) id q a r → is_open r ≡ true
open_by old places id at range q a r d not_empty (inl (one, place, same)) = subst (λ (t : Range). is_open t ≡ true) (sym same) not_empty
open_by old places id at range q a r d not_empty (inr k) = d.not_empty q a r k.before

to_listed : (old : List Slot) (places : Places) (id at : ℕ) (range : Range) (q a : ℕ) (r : Range) → AreDirected old places → ((q ≡ id) × (a ≡ at) × (r ≡ range)) ⊎ KeptByOther (place_at old) id q a r →
    ((q ≡ id) × (a ≡ at) × (r ≡ range)) ⊎ Has (held_at places a) (r, q)
to_listed old places id at range q a r d (inl h) = inl h
to_listed old places id at range q a r d (inr k) = inr (listed_has old places q a r d k.before)

-- a directory with the place that a slot took is that of the slots with it
pub directed_taken : (old new : List Slot) (places new_places : Places) (id at : ℕ) (range : Range) → AreDirected old places → is_open range ≡ true → MeetsNone old at range → IsOccupied (place_at old) (place_at new) id at range →
    Replaces at (with_range range id (held_at places at)) places new_places → AreDirected new new_places
directed_taken old new places new_places id at range d not_empty none taken replaced = record {
  listed = λ q a r h. contains_from_has (held_at new_places a) (r, q)
      (taken_listed_by places new_places id at q a range r replaced (to_listed old places id at range q a r d (taken_cases old new id at range q a r taken h (cases_eq q id))) (cases_eq a at));
  kept = kept_taken cases_eq (place_at old) (place_at new) (held_at places) (held_at new_places) id at range d.kept taken replaced;
  not_empty = λ q a r h. open_by old places id at range q a r d not_empty (taken_cases old new id at range q a r taken h (cases_eq q id));
  apart = λ q p a r s h g apart. apart_by old places id at range q p a r s d none apart (taken_cases old new id at range q a r taken h (cases_eq q id)) (taken_cases old new id at range p a s taken g (cases_eq p id));
}
