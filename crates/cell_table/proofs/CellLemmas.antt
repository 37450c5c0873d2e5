-- Parts that get cells.
use Rattle.std.proofs.Common.{◌≡◌, ℕ, true, false, List, [], ◌∷◌, ◌++◌, length, map, slice_get, slice_set, Contains, Option, Some, None, ◌⊎◌, inl, inr, refl, sym, ap, ◌∙◌, subst}
use Rattle.std.specs.Option.{option_and_then}
use Rattle.std.proofs.lemmas.Bool.{and_from, cases_eq, false_from_ne_true}
use Rattle.std.proofs.lemmas.Option.{none-some, same_Some, slice_get_within}
use Rattle.std.proofs.lemmas.List.{length-set}
use Rattle.semantics.specs.Texts.{Range, Text, is_range, table_of}
use Rattle.semantics.specs.Joins.{Join}
use Rattle.semantics.proofs.MemberLemmas.{Has, contains_from_has, has_from_contains, has_append_left, has_append_right, has_mapped}
use Rattle.key_ranges.specs.Ranges.{is_open, meets}
use Rattle.key_ranges.proofs.OrderLemmas.{is_up_to, below_up_to, up_to_from_below, up_to_itself, up_to_trans}
use Rattle.key_ranges.proofs.RangeLemmas.{meets_parts, within_table}
use Rattle.layering.specs.Parts.{IsWithin, JoinTo, JoinUpTo}
use Rattle.kept_ranges.specs.Sound.{KeptRange}
use Rattle.range_state.specs.Held.{forgotten}
use Rattle.range_set.specs.Joined.{JoinFrom}
use Rattle.range_set.proofs.BoundLemmas.{not_below_itself}
use Rattle.range_set.proofs.JoinedLemmas.{joined_are_of_table, joined_has_in}
use Rattle.cell_slots.specs.declared.slot.Slot.{Slot}
use Rattle.cell_slots.specs.declared.slot.Slot.TheVariants.{Free, Lent, Held}
use Rattle.cell_slots.specs.declared.slot.Part.{Part}
use Rattle.cell_slots.specs.Places.{KeepsPlace, ServeKept}
use Rattle.cell_slots.specs.Slots.{Frame, HasFree, Holdings, IsLeft, MeetsNone, place_at, place_of}
use Rattle.cell_slots.specs.Spending.{CoversAlone, Reserves, one_gap, one_part}
use Rattle.cell_slots.proofs.FrameLemmas.{get-set_other, get-set_same}
use Rattle.cell_slots.proofs.PlaceLemmas.{one_place, place_from_slot}
use Rattle.cell_table.specs.Stores.{AreOfTable, IsGap, Store}
use Rattle.cell_table.specs.Moves.{GetCells, GetsCell, GetsCellAs, IsReserved, ReservesParts}
use Rattle.cell_table.proofs.PartLemmas.{part}

-- ---- one after another

-- one part more gets a cell
pub got_more : (at rank : ℕ) (j : Join) (a b c : Store) (xs ys : List Part) (x y : Part) → GetCells at rank j a xs ys b → GetsCellAs at rank j b x y c → GetCells at rank j a (xs ++ x ∷ []) (ys ++ y ∷ []) c
got_more at rank j a b c [] [] x y e step = (c, subst (λ (s : Store). GetsCellAs at rank j s x y c) e step, refl)
got_more at rank j a b c [] (v ∷ ys) x y h step = absurd h
got_more at rank j a b c (u ∷ xs) [] x y h step = absurd h
got_more at rank j a b c (u ∷ xs) (v ∷ ys) x y h step = (h.0, h.1, got_more at rank j h.0 b c xs ys x y h.2 step)

-- ---- how slots change

-- a slot that was free holds one of the parts
pub record IsFor (at rank : ℕ) (j : Join) (parts : List Part) (before after : List Slot) (id : ℕ) : Type 0 where
  pub one : Part
  pub among : Has parts one
  pub free : slice_get before id ≡ Some Free
  pub holds : slice_get after id ≡ Some (Held at (forgotten j rank one.range))

-- each slot is as it was, or holds one of the parts
pub record Grows (at rank : ℕ) (j : Join) (parts : List Part) (before after : Store) : Type 0 where
  pub same_count : length after.holdings.slots ≡ length before.holdings.slots
  pub same_used : after.holdings.used ≡ before.holdings.used
  pub same_setting : after.holdings.setting ≡ before.holdings.setting
  pub same_limit : after.limit ≡ before.limit
  pub same_book : after.book ≡ before.book
  pub each : (id : ℕ) → (slice_get after.holdings.slots id ≡ slice_get before.holdings.slots id) ⊎ IsFor at rank j parts before.holdings.slots after.holdings.slots id

grows_not : (at rank : ℕ) (j : Join) (parts : List Part) (store : Store) → Grows at rank j parts store store
grows_not at rank j parts store = record { same_count = refl; same_used = refl; same_setting = refl; same_limit = refl; same_book = refl; each = λ id. inl refl }

set_by : (at rank : ℕ) (j : Join) (x : Part) (slots : List Slot) (id other : ℕ) → slice_get slots id ≡ Some Free → (other ≡ id) ⊎ (other ≡ id → ⊥) →
    (slice_get (slice_set slots id (Held at (forgotten j rank x.range))) other ≡ slice_get slots other) ⊎ IsFor at rank j (x ∷ []) slots (slice_set slots id (Held at (forgotten j rank x.range))) other
set_by at rank j x slots id other free (inl e) = inr (record {
  one = x;
  among = inl refl;
  free = subst (λ (k : ℕ). slice_get slots k ≡ Some Free) (sym e) free;
  holds = subst (λ (k : ℕ). slice_get (slice_set slots id (Held at (forgotten j rank x.range))) k ≡ Some (Held at (forgotten j rank x.range))) (sym e)
      (get-set_same slots id (Held at (forgotten j rank x.range)) (slice_get_within slots id Free free));
})
set_by at rank j x slots id other free (inr apart) = inl (get-set_other slots id other (Held at (forgotten j rank x.range)) apart)

grows_by : (at rank : ℕ) (j : Join) (x : Part) (a b : Store) (has gets : Option ℕ) → GetsCell at rank j x.range a has gets b → Grows at rank j (x ∷ []) a b
grows_by at rank j x a b (Some id) gets g = subst (λ (s : Store). Grows at rank j (x ∷ []) a s) (sym g.1) (grows_not at rank j (x ∷ []) a)
grows_by at rank j x a b None (Some id) g = subst (λ (s : Store). Grows at rank j (x ∷ []) a s) (sym g.1) (record {
  same_count = length-set a.holdings.slots id (Held at (forgotten j rank x.range));
  same_used = refl;
  same_setting = refl;
  same_limit = refl;
  same_book = refl;
  each = λ other. set_by at rank j x a.holdings.slots id other g.0 (cases_eq other id);
})
grows_by at rank j x a b None None g = subst (λ (s : Store). Grows at rank j (x ∷ []) a s) (sym g.1) (grows_not at rank j (x ∷ []) a)

each_then : (at rank : ℕ) (j : Join) (x : Part) (xs : List Part) (a b c : List Slot) (id : ℕ) → (slice_get b id ≡ slice_get a id) ⊎ IsFor at rank j (x ∷ []) a b id → (slice_get c id ≡ slice_get b id) ⊎ IsFor at rank j xs b c id →
    (slice_get c id ≡ slice_get a id) ⊎ IsFor at rank j (x ∷ xs) a c id
each_then at rank j x xs a b c id (inl h) (inl g) = inl (g ∙ h)
each_then at rank j x xs a b c id (inl h) (inr g) = inr (record { one = g.one; among = inr g.among; free = sym h ∙ g.free; holds = g.holds })
each_then at rank j x xs a b c id (inr h) (inl g) = inr (record { one = h.one; among = has_append_left (x ∷ []) xs h.one h.among; free = h.free; holds = g ∙ h.holds })
each_then at rank j x xs a b c id (inr h) (inr g) = absurd (not_free at (forgotten j rank h.one.range) (sym h.holds ∙ g.free))
  where
    not_free : (at : ℕ) (s : KeptRange) → Some (Held at s) ≡ Some Free → ⊥
    not_free at s e = cc

-- so slots change where parts get cells
pub grows_from : (at rank : ℕ) (j : Join) (a b : Store) (xs ys : List Part) → GetCells at rank j a xs ys b → Grows at rank j xs a b
grows_from at rank j a b [] [] e = subst (λ (s : Store). Grows at rank j [] a s) (sym e) (grows_not at rank j [] a)
grows_from at rank j a b [] (y ∷ ys) h = absurd h
grows_from at rank j a b (x ∷ xs) [] h = absurd h
grows_from at rank j a b (x ∷ xs) (y ∷ ys) h =
    let first = grows_by at rank j x a h.0 x.cell y.cell h.1.cell in
    let rest = grows_from at rank j h.0 b xs ys h.2 in
    record {
      same_count = rest.same_count ∙ first.same_count;
      same_used = rest.same_used ∙ first.same_used;
      same_setting = rest.same_setting ∙ first.same_setting;
      same_limit = rest.same_limit ∙ first.same_limit;
      same_book = rest.same_book ∙ first.same_book;
      each = λ id. each_then at rank j x xs a.holdings.slots h.0.holdings.slots b.holdings.slots id (first.each id) (rest.each id);
    }

-- ---- ranges that join

-- ranges that join are as far as these
join_from : (low high : Text) (rs : List Range) → JoinUpTo low high rs → JoinFrom low high rs
join_from low high [] j = j
join_from low high (r ∷ rs) j = (j.0, j.1, join_from r.high high rs j.2)

-- the ranges of parts
abbrev pub ranges : List Part → List Range
ranges parts = map (λ (p : Part). p.range) parts

-- a part of a range lies within it
pub part_within : (range : Range) (parts : List Part) (x : Part) → JoinTo range (ranges parts) → Has parts x → IsWithin x.range range
part_within range parts x j h =
    let lies = joined_has_in range (ranges parts) x.range (join_from range.low range.high (ranges parts) j) (has_mapped (λ (p : Part). p.range) parts x h) in
    record { begins = lies.low; ends = lies.high }

-- it is not empty
part_open : (low high : Text) (parts : List Part) (x : Part) → JoinUpTo low high (ranges parts) → Has parts x → is_open x.range ≡ true
part_open low high [] x j h = absurd h
part_open low high (y ∷ ys) x j (inl e) = subst (λ (p : Part). is_open p.range ≡ true) e j.1
part_open low high (y ∷ ys) x j (inr h) = part_open y.range.high high ys x j.2 h

-- and is of its table
pub part_of_table : (range : Range) (parts : List Part) (x : Part) → is_range range.low range.high ≡ true → JoinTo range (ranges parts) → Has parts x → table_of x.range.low ≡ table_of range.low
part_of_table range parts x is j h = joined_are_of_table range (ranges parts) x.range is (join_from range.low range.high (ranges parts) j)
    (contains_from_has (ranges parts) x.range (has_mapped (λ (p : Part). p.range) parts x h))

-- each part begins where the first one does, or behind that
starts_up_to : (low high : Text) (xs zs : List Part) (x : Part) → JoinUpTo low high (ranges (xs ++ x ∷ zs)) → is_up_to low x.range.low ≡ true
starts_up_to low high [] zs x j = subst (λ (t : Text). is_up_to t x.range.low ≡ true) j.0 (up_to_itself x.range.low)
starts_up_to low high (y ∷ xs) zs x j = up_to_trans low y.range.high x.range.low (subst (λ (t : Text). is_up_to t y.range.high ≡ true) j.0 (up_to_from_below y.range.low y.range.high j.1)) (starts_up_to y.range.high high xs zs x j.2)

-- a part before another ends before that begins
ends_up_to : (low high : Text) (xs zs : List Part) (x y : Part) → JoinUpTo low high (ranges (xs ++ x ∷ zs)) → Has xs y → is_up_to y.range.high x.range.low ≡ true
ends_up_to low high [] zs x y j h = absurd h
ends_up_to low high (u ∷ xs) zs x y j (inl e) = subst (λ (p : Part). is_up_to p.range.high x.range.low ≡ true) e (starts_up_to u.range.high high xs zs x j.2)
ends_up_to low high (u ∷ xs) zs x y j (inr h) = ends_up_to u.range.high high xs zs x y j.2 h

-- so it does not meet it
apart_before : (range : Range) (xs zs : List Part) (x y : Part) → JoinTo range (ranges (xs ++ x ∷ zs)) → Has xs y → meets y.range x.range ≡ false
apart_before range xs zs x y j h = false_from_ne_true (meets y.range x.range) (λ m.
    not_below_itself x.range.low (below_up_to x.range.low y.range.high x.range.low (meets_parts y.range x.range m).second_below (ends_up_to range.low range.high xs zs x y j h)))

-- ---- the next part

-- the place of a slot that holds a part
held_place : (at rank : ℕ) (j : Join) (r kept : Range) (slots : List Slot) (id : ℕ) → slice_get slots id ≡ Some (Held at (forgotten j rank r)) → KeepsPlace (place_at slots) id at kept → r ≡ kept
held_place at rank j r kept slots id holds keeps = (one_place (place_at slots) id at at r kept (place_from_slot place_of slots id (Held at (forgotten j rank r)) holds) keeps).1

none_by : (at rank : ℕ) (j : Join) (range : Range) (xs zs : List Part) (x : Part) (a b : List Slot) (id : ℕ) (kept : Range) → JoinTo range (ranges (xs ++ x ∷ zs)) → MeetsNone a at x.range → KeepsPlace (place_at b) id at kept →
    (slice_get b id ≡ slice_get a id) ⊎ IsFor at rank j xs a b id → meets kept x.range ≡ false
none_by at rank j range xs zs x a b id kept join none keeps (inl same) = none id kept (ap (option_and_then place_of) (sym same) ∙ keeps)
none_by at rank j range xs zs x a b id kept join none keeps (inr f) =
    subst (λ (r : Range). meets r x.range ≡ false) (held_place at rank j f.one.range kept b id f.holds keeps) (apart_before range xs zs x f.one join f.among)

-- the next gap is still one
pub gap_stays : (at rank : ℕ) (j : Join) (range : Range) (xs zs : List Part) (x : Part) (a b : Store) → JoinTo range (ranges (xs ++ x ∷ zs)) → Grows at rank j xs a b → IsGap a.holdings.slots at x.range → IsGap b.holdings.slots at x.range
gap_stays at rank j range xs zs x a b join grows gap = record {
  not_empty = gap.not_empty;
  apart = λ id kept keeps. none_by at rank j range xs zs x a.holdings.slots b.holdings.slots id kept join gap.apart keeps (grows.each id);
}

table_by : (at rank : ℕ) (j : Join) (name : Text) (xs : List Part) (a b : List Slot) (id : ℕ) (kept : Range) → AreOfTable a at name → ((y : Part) → Has xs y → table_of y.range.low ≡ name) → KeepsPlace (place_at b) id at kept →
    (slice_get b id ≡ slice_get a id) ⊎ IsFor at rank j xs a b id → table_of kept.low ≡ name
table_by at rank j name xs a b id kept old these keeps (inl same) = old id kept (ap (option_and_then place_of) (sym same) ∙ keeps)
table_by at rank j name xs a b id kept old these keeps (inr f) = ap (λ (r : Range). table_of r.low) (sym (held_place at rank j f.one.range kept b id f.holds keeps)) ∙ these f.one f.among

-- all places are still of the table
pub table_stays : (at rank : ℕ) (j : Join) (name : Text) (xs : List Part) (a b : Store) → AreOfTable a.holdings.slots at name → ((y : Part) → Has xs y → table_of y.range.low ≡ name) → Grows at rank j xs a b → AreOfTable b.holdings.slots at name
table_stays at rank j name xs a b old these grows = λ id kept keeps. table_by at rank j name xs a.holdings.slots b.holdings.slots id kept old these keeps (grows.each id)

-- ---- what follows

reserved_by : (at rank : ℕ) (j : Join) (range : Range) (parts : List Part) (a b : List Slot) (id : ℕ) → ((y : Part) → Has parts y → IsWithin y.range range) → ((y : Part) → Has parts y → is_open y.range ≡ true) → (slice_get b id ≡ slice_get a id) ⊎ IsFor at rank j parts a b id →
    (slice_get b id ≡ slice_get a id) ⊎ IsReserved a b id at rank j range
reserved_by at rank j range parts a b id inside not_empty (inl same) = inl same
reserved_by at rank j range parts a b id inside not_empty (inr f) = inr (record { part = f.one.range; inside = inside f.one f.among; not_empty = not_empty f.one f.among; free = f.free; holds = f.holds })

-- parts of a range are reserved
pub reserves_from : (at rank : ℕ) (j : Join) (range : Range) (parts : List Part) (a b : Store) → ((y : Part) → Has parts y → IsWithin y.range range) → ((y : Part) → Has parts y → is_open y.range ≡ true) → Grows at rank j parts a b → ReservesParts a.holdings b.holdings at rank j range
reserves_from at rank j range parts a b inside not_empty grows = record {
  same_count = grows.same_count;
  same_used = grows.same_used;
  same_setting = grows.same_setting;
  each = λ id. reserved_by at rank j range parts a.holdings.slots b.holdings.slots id inside not_empty (grows.each id);
}

-- the parts keep their ranges
pub same_ranges : (at rank : ℕ) (j : Join) (a b : Store) (xs ys : List Part) → GetCells at rank j a xs ys b → ranges ys ≡ ranges xs
same_ranges at rank j a b [] [] e = refl
same_ranges at rank j a b [] (y ∷ ys) h = absurd h
same_ranges at rank j a b (x ∷ xs) [] h = absurd h
same_ranges at rank j a b (x ∷ xs) (y ∷ ys) h = ap (λ (r : Range). r ∷ ranges ys) h.1.same_range ∙ ap (λ (rs : List Range). x.range ∷ rs) (same_ranges at rank j h.0 b xs ys h.2)

-- each part with a cell stays
has_kept_cell : (at rank : ℕ) (j : Join) (a b : Store) (xs ys : List Part) (r : Range) (id : ℕ) → GetCells at rank j a xs ys b → Has xs (part r (Some id)) → Has ys (part r (Some id))
has_kept_cell at rank j a b [] ys r id h here = absurd here
has_kept_cell at rank j a b (x ∷ xs) [] r id h here = absurd h
has_kept_cell at rank j a b (x ∷ xs) (y ∷ ys) r id h (inl e) =
    let gets : GetsCell at rank j x.range a (Some id) y.cell h.0 = subst (λ (c : Option ℕ). GetsCell at rank j x.range a c y.cell h.0) (ap (λ (p : Part). p.cell) e) h.1.cell in
    inl (ap (λ (t : Range). part t y.cell) (h.1.same_range ∙ ap (λ (p : Part). p.range) e) ∙ ap (λ (c : Option ℕ). part r c) gets.0)
has_kept_cell at rank j a b (x ∷ xs) (y ∷ ys) r id h (inr here) = inr (has_kept_cell at rank j h.0 b xs ys r id h.2 here)

-- so the places within a range that were parts are parts still
pub serve_still : (at rank : ℕ) (j : Join) (a b : Store) (keeps : ℕ → Option (ℕ × Range)) (range : Range) (xs ys : List Part) → GetCells at rank j a xs ys b → ServeKept keeps at range xs → ServeKept keeps at range ys
serve_still at rank j a b keeps range xs ys gets serve = λ id place kept inside.
    contains_from_has ys (part place (Some id)) (has_kept_cell at rank j a b xs ys place id gets (has_from_contains xs (part place (Some id)) (serve id place kept inside)))

-- a part with a cell alone stays
pub alone_from : (at rank : ℕ) (j : Join) (a b : Store) (range : Range) (id : ℕ) (ys : List Part) → GetCells at rank j a (one_part range id) ys b → CoversAlone a.holdings b.holdings id range ys
alone_from at rank j a b range id [] h = absurd h
alone_from at rank j a b range id (y ∷ []) h = record {
  one = ap (λ (r : Range). part r y.cell ∷ []) h.1.same_range ∙ ap (λ (c : Option ℕ). part range c ∷ []) h.1.cell.0;
  still = ap (λ (s : Store). s.holdings) (h.2 ∙ h.1.cell.1);
}
alone_from at rank j a b range id (y ∷ z ∷ ys) h = absurd h.2

reserved_one : (at rank : ℕ) (j : Join) (a b : Store) (range : Range) (y : Part) (gets : Option ℕ) → y.range ≡ range → y.cell ≡ gets → GetsCell at rank j range a None gets b → HasFree a.holdings.slots → Reserves a.holdings b.holdings at rank j range (y ∷ [])
reserved_one at rank j a b range y (Some id) same is g free = record {
  id = id;
  free = g.0;
  one = ap (λ (r : Range). part r y.cell ∷ []) same ∙ ap (λ (c : Option ℕ). part range c ∷ []) is;
  set = ap (λ (s : Store). s.holdings) g.1;
}
reserved_one at rank j a b range y None same is g free = absurd (g.0 free)

-- a gap alone is reserved where a cell is free
pub reserves_gap : (at rank : ℕ) (j : Join) (a b : Store) (range : Range) (ys : List Part) → GetCells at rank j a (one_gap range) ys b → HasFree a.holdings.slots → Reserves a.holdings b.holdings at rank j range ys
reserves_gap at rank j a b range [] h free = absurd h
reserves_gap at rank j a b range (y ∷ []) h free =
    reserved_one at rank j a b range y y.cell h.1.same_range refl (subst (λ (s : Store). GetsCell at rank j range a None y.cell s) (sym h.2) h.1.cell) free
reserves_gap at rank j a b range (y ∷ z ∷ ys) h free = absurd h.2

-- ---- the frame

frame_left_by : (a b : List Slot) (at rank : ℕ) (j : Join) (range : Range) (id : ℕ) (slot : Slot) → slice_get a id ≡ Some slot → (slot ≡ Free → ⊥) → (slice_get b id ≡ slice_get a id) ⊎ IsReserved a b id at rank j range → slice_get b id ≡ Some slot
frame_left_by a b at rank j range id slot was taken (inl same) = same ∙ was
frame_left_by a b at rank j range id slot was taken (inr r) = absurd (taken (same_Some slot Free (sym was ∙ r.free)))

frame_lent_by : (a b : List Slot) (at rank : ℕ) (j : Join) (range : Range) (id place : ℕ) (kept : Range) → slice_get b id ≡ Some (Lent place kept) → (slice_get b id ≡ slice_get a id) ⊎ IsReserved a b id at rank j range → slice_get a id ≡ Some (Lent place kept)
frame_lent_by a b at rank j range id place kept is (inl same) = sym same ∙ is
frame_lent_by a b at rank j range id place kept is (inr r) = absurd (not_held place kept at (forgotten j rank r.part) (sym is ∙ r.holds))
  where
    not_held : (place : ℕ) (kept : Range) (at : ℕ) (s : KeptRange) → Some (Lent place kept) ≡ Some (Held at s) → ⊥
    not_held place kept at s e = cc

-- a free slot is none that is left
free_not_left : (slot : Slot) → slot ≡ Free → IsLeft 0 slot → ⊥
free_not_left Free e left = left
free_not_left (Lent at range) e left = cc
free_not_left (Held at s) e left = cc

frame_places_by : (a b : List Slot) (at rank : ℕ) (j : Join) (range : Range) (id : ℕ) (place : ℕ × Range) → place_at a id ≡ Some place → (slice_get b id ≡ slice_get a id) ⊎ IsReserved a b id at rank j range → place_at b id ≡ Some place
frame_places_by a b at rank j range id place kept (inl same) = ap (λ o. option_and_then place_of o) same ∙ kept
frame_places_by a b at rank j range id place kept (inr r) = absurd (none-some place (sym (ap (λ o. option_and_then place_of o) r.free) ∙ kept))

-- reserving parts leaves cells as a reader of the lowest rank does
pub frame_from : (a b : Holdings) (at rank : ℕ) (j : Join) (range : Range) → ReservesParts a b at rank j range → Frame 0 a b
frame_from a b at rank j range r = record {
  same_count = r.same_count;
  left = λ id slot was left. frame_left_by a.slots b.slots at rank j range id slot was (λ e. free_not_left slot e left) (r.each id);
  places = λ id place kept. frame_places_by a.slots b.slots at rank j range id place kept (r.each id);
  lent = λ id place kept is. frame_lent_by a.slots b.slots at rank j range id place kept is (r.each id);
  unused = λ e. r.same_used;
  same_setting = r.same_setting;
}

-- nothing is reserved
pub reserves_none : (a : Holdings) (at rank : ℕ) (j : Join) (range : Range) → ReservesParts a a at rank j range
reserves_none a at rank j range = record { same_count = refl; same_used = refl; same_setting = refl; each = λ id. inl refl }

-- ---- in a loop

-- the parts so far, of which some are reserved
pub so_far : (at rank : ℕ) (j : Join) (range : Range) (all xs zs ys : List Part) (a b : Store) → all ≡ xs ++ zs → JoinTo range (ranges all) → GetCells at rank j a xs ys b → ReservesParts a.holdings b.holdings at rank j range
so_far at rank j range all xs zs ys a b is join got =
    reserves_from at rank j range xs a b (λ y h. part_within range all y join (subst (λ (ps : List Part). Has ps y) (sym is) (has_append_left xs zs y h))) (λ y h. part_open range.low range.high all y join (subst (λ (ps : List Part). Has ps y) (sym is) (has_append_left xs zs y h)))
    (grows_from at rank j a b xs ys got)

-- the limit stays
pub limit_stays : (at rank : ℕ) (j : Join) (xs ys : List Part) (a b : Store) → GetCells at rank j a xs ys b → b.limit ≡ a.limit
limit_stays at rank j xs ys a b got = (grows_from at rank j a b xs ys got).same_limit

-- and so does the book
pub book_stays : (at rank : ℕ) (j : Join) (xs ys : List Part) (a b : Store) → GetCells at rank j a xs ys b → b.book ≡ a.book
book_stays at rank j xs ys a b got = (grows_from at rank j a b xs ys got).same_book

-- the next part, if no cell holds it, is a gap
pub next_gap : (at rank : ℕ) (j : Join) (range : Range) (all xs zs ys : List Part) (x : Part) (a b : Store) → all ≡ xs ++ x ∷ zs → JoinTo range (ranges all) → ((r : Range) → Contains all (part r None) → IsGap a.holdings.slots at r) →
    GetCells at rank j a xs ys b → x.cell ≡ None → IsGap b.holdings.slots at x.range
next_gap at rank j range all xs zs ys x a b is join gaps got none =
    let has : Has all x = subst (λ (ps : List Part). Has ps x) (sym is) (has_append_right xs (x ∷ zs) x (inl refl)) in
    let gap : IsGap a.holdings.slots at x.range = gaps x.range (contains_from_has all (part x.range None) (subst (λ (p : Part). Has all p) (ap (λ (c : Option ℕ). part x.range c) none) has)) in
    gap_stays at rank j range xs zs x a b (subst (λ (ps : List Part). JoinTo range (ranges ps)) is join) (grows_from at rank j a b xs ys got) gap

-- the places are of the table of the next part
pub next_table : (at rank : ℕ) (j : Join) (range : Range) (all xs zs ys : List Part) (x : Part) (a b : Store) → all ≡ xs ++ x ∷ zs → JoinTo range (ranges all) → is_range range.low range.high ≡ true → AreOfTable a.holdings.slots at (table_of range.low) →
    GetCells at rank j a xs ys b → AreOfTable b.holdings.slots at (table_of x.range.low)
next_table at rank j range all xs zs ys x a b is join range_is of_table got =
    let of : (y : Part) → Has (xs ++ x ∷ zs) y → table_of y.range.low ≡ table_of range.low = λ y h. part_of_table range all y range_is join (subst (λ (ps : List Part). Has ps y) (sym is) h) in
    subst (λ (name : Text). AreOfTable b.holdings.slots at name) (sym (of x (has_append_right xs (x ∷ zs) x (inl refl))))
    (table_stays at rank j (table_of range.low) xs a b of_table (λ y h. of y (has_append_left xs (x ∷ zs) y h)) (grows_from at rank j a b xs ys got))

-- ---- for the layers above

reserved_of_table : (a b : List Slot) (at rank : ℕ) (j : Join) (range : Range) (id : ℕ) (kept : Range) → is_range range.low range.high ≡ true → AreOfTable a at (table_of range.low) → KeepsPlace (place_at b) id at kept →
    (slice_get b id ≡ slice_get a id) ⊎ IsReserved a b id at rank j range → table_of kept.low ≡ table_of range.low
reserved_of_table a b at rank j range id kept range_is of_table keeps (inl same) = of_table id kept (ap (option_and_then place_of) (sym same) ∙ keeps)
reserved_of_table a b at rank j range id kept range_is of_table keeps (inr r) =
    ap (λ (t : Range). table_of t.low) (sym (held_place at rank j r.part kept b id r.holds keeps)) ∙
    within_table range r.part.low range_is (and_from _ _ r.inside.begins (below_up_to r.part.low r.part.high range.high r.not_empty r.inside.ends))

-- where parts of a range are reserved, all places of its join stay of its table
pub reserved_stay_of_table : (a b : Holdings) (at rank : ℕ) (j : Join) (range : Range) → is_range range.low range.high ≡ true → AreOfTable a.slots at (table_of range.low) → ReservesParts a b at rank j range → AreOfTable b.slots at (table_of range.low)
reserved_stay_of_table a b at rank j range range_is of_table r = λ id kept keeps. reserved_of_table a.slots b.slots at rank j range id kept range_is of_table keeps (r.each id)
