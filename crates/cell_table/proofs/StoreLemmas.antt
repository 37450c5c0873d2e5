-- How a store stays one.
use Rattle.std.proofs.Common.{◌≡◌, ℕ, ◌+◌, ◌<◌, ◌≤◌, ◌==◌, nat_le, Bool, true, false, cond, not, List, [], ◌∷◌, ◌++◌, length, replicate, slice_get, slice_set, Contains, Some, ◌⊎◌, inl, inr, refl, sym, ◌∙◌, subst, arith, eq-eqb}
use Rattle.std.proofs.lemmas.Bool.{cases_eq, false≢true, not-true}
use Rattle.std.proofs.lemmas.Option.{slice_get_within}
use Rattle.std.proofs.lemmas.List.{length-set, length-replicate}
use Rattle.std.proofs.lemmas.List.Sums.{sum_by-cons}
use Rattle.semantics.specs.Texts.{Range}
use Rattle.semantics.proofs.MemberLemmas.{Has, has_from_contains, contains_from_has, has_append_cases, has_filter}
use Rattle.key_ranges.specs.Ranges.{is_open}
use Rattle.range_set.specs.Held.{with_range, without_range}
use Rattle.evict_book.specs.Books.{Book, Used, book as book_of, left_of, total_weight, weigh, with_use, without}
use Rattle.evict_book.proofs.VictimLemmas.{left_fits}
use Rattle.cell_slots.specs.declared.slot.Slot.{Slot}
use Rattle.cell_slots.specs.declared.slot.Slot.TheVariants.{Free}
use Rattle.cell_slots.specs.Slots.{place_at, place_of, MeetsNone}
use Rattle.cell_slots.proofs.PlaceLemmas.{occupied_by_set, place_from_slot, place_other, place_set, same_places, vacated_by_set}
use Rattle.cell_table.specs.Places.{Places, Replaces, held_at}
use Rattle.cell_table.specs.Stores.{AreBooked, AreDirected, HasPlace, IsStore}
use Rattle.cell_table.proofs.SlotLemmas.{free_keep_none}
use Rattle.cell_table.proofs.DirectedLemmas.{directed_left, directed_same, directed_taken}

-- ---- what the book knows

-- where all places stay, it knows none but those that keep one
booked_same : (slots new : List Slot) (book : Used) → ((id : ℕ) → place_at new id ≡ place_at slots id) → AreBooked slots book → AreBooked new book
booked_same slots new book same booked = λ e h. let place = booked e h in record { at = place.at; range = place.range; kept = same e.0 ∙ place.kept }

-- a place stays where another slot is set
place_stays : (slots : List Slot) (id other : ℕ) (slot : Slot) → (other ≡ id → ⊥) → HasPlace slots other → HasPlace (slice_set slots id slot) other
place_stays slots id other slot apart place = record { at = place.at; range = place.range; kept = place_other place_of slots id other slot apart ∙ place.kept }

-- without a cell that is set free
booked_left : (slots : List Slot) (id : ℕ) (book : Used) → AreBooked slots book → AreBooked (slice_set slots id Free) (without id book)
booked_left slots id book booked = λ e h.
    let among = has_filter (λ (f : ℕ × ℕ). not (id == f.0)) book e (has_from_contains (without id book) e h) in
    place_stays slots id e.0 Free (λ (same : e.0 ≡ id). false≢true (sym (not-true (id == e.0) among.0) ∙ eq-eqb id e.0 (sym same))) (booked e (contains_from_has book e among.1))

place_taken : (slots : List Slot) (id at : ℕ) (range : Range) (slot : Slot) → id < length slots → place_of slot ≡ Some (at, range) → (other : ℕ) → (other ≡ id) ⊎ (other ≡ id → ⊥) → HasPlace slots other → HasPlace (slice_set slots id slot) other
place_taken slots id at range slot less place other (inl e) before =
    record { at = at; range = range; kept = subst (λ (k : ℕ). place_at (slice_set slots id slot) k ≡ Some (at, range)) (sym e) (place_set place_of slots id slot less ∙ place) }
place_taken slots id at range slot less place other (inr apart) before = place_stays slots id other slot apart before

-- where a slot takes a place
booked_taken : (slots : List Slot) (id at : ℕ) (range : Range) (slot : Slot) (book : Used) → id < length slots → place_of slot ≡ Some (at, range) → AreBooked slots book → AreBooked (slice_set slots id slot) book
booked_taken slots id at range slot book less place booked = λ e h. place_taken slots id at range slot less place e.0 (cases_eq e.0 id) (booked e h)

left_by : (e f : ℕ × ℕ) (es left : Used) (x : Bool) → (Has left f → Has es f) → Has (cond x (e ∷ es) left) f → Has (e ∷ es) f
left_by e f es left true rest h = h
left_by e f es left false rest h = inr (rest h)

-- those that are left were there
left_among : (limit : ℕ) (book : Used) (f : ℕ × ℕ) → Has (left_of limit book) f → Has book f
left_among limit [] f h = h
left_among limit (e ∷ es) f h = left_by e f es (left_of limit es) (nat_le (total_weight (e ∷ es)) limit) (left_among limit es f) h

-- with a cell that was used, and without those that have to go
booked_weighed : (slots : List Slot) (book : Used) (limit id rows : ℕ) → AreBooked slots book → HasPlace slots id → AreBooked slots (left_of limit (with_use id rows book))
booked_weighed slots book limit id rows booked place = λ e h.
    by e (has_append_cases (without id book) ((id, weigh rows) ∷ []) e (left_among limit (with_use id rows book) e (has_from_contains (left_of limit (with_use id rows book)) e h)))
  where
    by : (e : ℕ × ℕ) → Has (without id book) e ⊎ Has ((id, weigh rows) ∷ []) e → HasPlace slots e.0
    by e (inl h) = booked e (contains_from_has book e (has_filter (λ (f : ℕ × ℕ). not (id == f.0)) book e h).1)
    by e (inr (inl is)) = subst (λ (f : ℕ × ℕ). HasPlace slots f.0) is place
    by e (inr (inr h)) = absurd h

lighter_by : (e : ℕ × ℕ) (es rest : Used) (x : Bool) → total_weight rest ≤ total_weight es → total_weight (cond x (e ∷ rest) rest) ≤ total_weight (e ∷ es)
lighter_by e es rest true h = let kept = sum_by-cons (λ (f : ℕ × ℕ). f.1) e rest in let all = sum_by-cons (λ (f : ℕ × ℕ). f.1) e es in omega arith
lighter_by e es rest false h = let all = sum_by-cons (λ (f : ℕ × ℕ). f.1) e es in omega arith

-- without one they weigh no more
lighter : (id : ℕ) (book : Used) → total_weight (without id book) ≤ total_weight book
lighter id [] = omega arith
lighter id (e ∷ es) = lighter_by e es (without id es) (not (id == e.0)) (lighter id es)

-- ---- stores

-- a store with as many cells, a directory of their places, and a book
pub store_from : (old new : List Slot) (used more : List ℕ) (places new_places : Places) (book next : Book) → IsStore old used places book → length new ≡ length old → AreDirected new new_places → next.cells ≡ book.cells →
    ((id : ℕ) → Contains more id → id < length old) → AreBooked new next.used → total_weight next.used ≤ next.limit → IsStore new more new_places next
store_from old new used more places new_places book next store count directed cells used_are booked fits = record {
  some = subst (λ n. 1 ≤ n) (sym count) store.some;
  directed = directed;
  used_are_cells = λ id h. subst (λ n. id < n) (sym count) (used_are id h);
  cells = cells ∙ store.cells ∙ sym count;
  booked = booked;
  fits = fits;
}

-- free cells, of which the book knows none
pub store_free : (cells : ℕ) (book : Book) → 1 ≤ cells → book.cells ≡ cells → book.used ≡ [] → IsStore (replicate cells Free) [] [] book
store_free cells book some same none = record {
  some = subst (λ n. 1 ≤ n) (sym (length-replicate cells Free)) some;
  directed = record {
    listed = λ id at range h. absurd (free_keep_none cells id at range h);
    kept = λ id at range h. absurd (has_from_contains [] (range, id) h);
    not_empty = λ id at range h. absurd (free_keep_none cells id at range h);
    apart = λ id other at r s h g apart. absurd (free_keep_none cells id at r h);
  };
  used_are_cells = λ id h. absurd (has_from_contains [] id h);
  cells = same ∙ sym (length-replicate cells Free);
  booked = λ e h. absurd (has_from_contains [] e (subst (λ (known : Used). Contains known e) none h));
  fits = subst (λ (known : Used). total_weight known ≤ book.limit) (sym none) (omega arith);
}

-- a slot is set that keeps the place of the old one
pub store_set : (slots new : List Slot) (used : List ℕ) (places : Places) (book : Book) (id : ℕ) (old slot : Slot) → IsStore slots used places book → slice_get slots id ≡ Some old → place_of slot ≡ place_of old → new ≡ slice_set slots id slot →
    IsStore new used places book
store_set slots new used places book id old slot store was same set =
    subst (λ (xs : List Slot). IsStore xs used places book) (sym set)
    (store_from slots (slice_set slots id slot) used used places places book book store (length-set slots id slot)
    (directed_same slots (slice_set slots id slot) places (same_places place_of slots id old slot was same) store.directed) refl store.used_are_cells
    (booked_same slots (slice_set slots id slot) book.used (same_places place_of slots id old slot was same) store.booked) store.fits)

-- a cell is used
pub store_used : (slots : List Slot) (used : List ℕ) (places : Places) (book : Book) (id : ℕ) → IsStore slots used places book → id < length slots → IsStore slots (used ++ id ∷ []) places book
store_used slots used places book id store less = store_from slots slots used (used ++ id ∷ []) places places book book store refl store.directed refl
    (λ q h. by q (has_append_cases used (id ∷ []) q (has_from_contains (used ++ id ∷ []) q h))) store.booked store.fits
  where
    by : (q : ℕ) → Has used q ⊎ Has (id ∷ []) q → q < length slots
    by q (inl h) = store.used_are_cells q (contains_from_has used q h)
    by q (inr (inl e)) = subst (λ (n : ℕ). n < length slots) e less
    by q (inr (inr h)) = absurd h

-- none was used
pub store_unused : (slots : List Slot) (used : List ℕ) (places : Places) (book : Book) → IsStore slots used places book → IsStore slots [] places book
store_unused slots used places book store = store_from slots slots used [] places places book book store refl store.directed refl (λ id h. absurd (has_from_contains [] id h)) store.booked store.fits

-- the book is told of a cell that keeps a place
pub store_weighed : (slots : List Slot) (used : List ℕ) (places : Places) (book next : Book) (id rows : ℕ) → IsStore slots used places book → HasPlace slots id → next ≡ book_of (left_of book.limit (with_use id rows book.used)) book.cells book.limit →
    IsStore slots used places next
store_weighed slots used places book next id rows store place is =
    subst (IsStore slots used places) (sym is)
    (store_from slots slots used used places places book (book_of (left_of book.limit (with_use id rows book.used)) book.cells book.limit) store refl store.directed refl store.used_are_cells
    (booked_weighed slots book.used book.limit id rows store.booked place) (left_fits book.limit (with_use id rows book.used)))

-- a slot is set free, its place is left, and the book knows it no more
pub store_left : (slots new : List Slot) (used : List ℕ) (places new_places : Places) (book next : Book) (id at : ℕ) (range : Range) (slot : Slot) → IsStore slots used places book → slice_get slots id ≡ Some slot →
    place_of slot ≡ Some (at, range) → new ≡ slice_set slots id Free → Replaces at (without_range range (held_at places at)) places new_places → next ≡ book_of (without id book.used) book.cells book.limit → IsStore new used new_places next
store_left slots new used places new_places book next id at range slot store was place set replaced is =
    subst (λ (xs : List Slot). IsStore xs used new_places next) (sym set)
    (subst (IsStore (slice_set slots id Free) used new_places) (sym is)
    (store_from slots (slice_set slots id Free) used used places new_places book (book_of (without id book.used) book.cells book.limit) store (length-set slots id Free)
    (directed_left slots (slice_set slots id Free) places new_places id at range store.directed (place_from_slot place_of slots id slot was ∙ place) (vacated_by_set place_of slots id slot Free was refl) replaced)
    refl store.used_are_cells (booked_left slots id book.used store.booked) (omega (arith, lighter id book.used, store.fits))))

-- a free slot takes a place
pub store_taken : (slots new : List Slot) (used : List ℕ) (places new_places : Places) (book : Book) (id at : ℕ) (range : Range) (slot : Slot) → IsStore slots used places book → slice_get slots id ≡ Some Free →
    place_of slot ≡ Some (at, range) → is_open range ≡ true → MeetsNone slots at range → new ≡ slice_set slots id slot → Replaces at (with_range range id (held_at places at)) places new_places → IsStore new used new_places book
store_taken slots new used places new_places book id at range slot store free place not_empty none set replaced =
    subst (λ (xs : List Slot). IsStore xs used new_places book) (sym set)
    (store_from slots (slice_set slots id slot) used used places new_places book book store (length-set slots id slot)
    (directed_taken slots (slice_set slots id slot) places new_places id at range store.directed not_empty none (occupied_by_set place_of slots id at range Free slot free refl place) replaced)
    refl store.used_are_cells (booked_taken slots id at range slot book.used (slice_get_within slots id Free free) place store.booked) store.fits)
