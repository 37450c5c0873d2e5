-- The places that cells keep, and the ranges that are listed beside them.
use Rattle.std.proofs.Common.{◌≡◌, ◌≢◌, ℕ, ◌<◌, Bool, true, false, cond, not, List, [], ◌∷◌, length, slice_get, slice_set, Contains, Option, Some, None, ◌⊎◌, inl, inr, refl, sym, ap, ◌∙◌, subst}
use Rattle.std.specs.Option.{option_and_then}
use Rattle.std.proofs.lemmas.Bool.{cases_eq, false≢true, and_parts, and_from, false_from_ne_true, not-true}
use Rattle.std.proofs.lemmas.Option.{none-some, same_Some, slice_get_within}
use Rattle.semantics.specs.Texts.{Range, Text, same}
use Rattle.semantics.proofs.PieceLemmas.{equal_by_same, same_itself}
use Rattle.semantics.proofs.MemberLemmas.{Has, has_from_contains, contains_from_has, has_filter}
use Rattle.key_ranges.specs.Ranges.{is_below, is_open, meets}
use Rattle.key_ranges.proofs.RangeLemmas.{meets_parts}
use Rattle.range_set.specs.Held.{Held as Ranges, is_free, same_range, with_range, without_range}
use Rattle.cell_slots.specs.Places.{AreKept, KeepsPlace, ListsInstead, ListsTheSame, place_in}
use Rattle.cell_slots.proofs.FrameLemmas.{get-set_same, get-set_other}

-- ---- ranges that meet

-- ranges meet either way round
pub meets_sym : (r s : Range) → meets r s ≡ true → meets s r ≡ true
meets_sym r s h = let m = meets_parts r s h in and_from _ _ (and_from _ _ (and_from _ _ m.open_second m.open_first) m.second_below) m.first_below

-- a range that is not empty meets itself
pub meets_itself : (r : Range) → is_open r ≡ true → meets r r ≡ true
meets_itself r h = and_from _ _ (and_from _ _ (and_from _ _ h h) h) h

-- ranges with the same bounds are the same
pub equal_ranges : (r s : Range) → same_range r s ≡ true → r ≡ s
equal_ranges r s h =
    let both = and_parts (same r.low s.low) (same r.high s.high) h in
    ap (λ (t : Text). record { low = t; high = r.high }) (equal_by_same r.low s.low both.0) ∙ ap (λ (t : Text). record { low = s.low; high = t }) (equal_by_same r.high s.high both.1)

-- a range has its own bounds
pub same_bounds : (r : Range) → same_range r r ≡ true
same_bounds r = and_from _ _ (same_itself r.low) (same_itself r.high)

-- a range that is not empty has other bounds than one that it does not meet
pub other_bounds : (r s : Range) → is_open r ≡ true → meets s r ≡ false → same_range r s ≡ false
other_bounds r s not_empty apart = false_from_ne_true (same_range r s) (λ e. false≢true (sym apart ∙ subst (λ (t : Range). meets t r ≡ true) (equal_ranges r s e) (meets_itself r not_empty)))

-- ---- one range more

first_or_rest : (r : Range) (id : ℕ) (e : Range × ℕ) (es rest : Ranges ℕ) (x : Bool) (f : Range × ℕ) → (Has rest f → ((r, id) ≡ f) ⊎ Has es f) → Has (cond x ((r, id) ∷ e ∷ es) (e ∷ rest)) f → ((r, id) ≡ f) ⊎ Has (e ∷ es) f
first_or_rest r id e es rest true f back h = h
first_or_rest r id e es rest false f back (inl p) = inr (inl p)
first_or_rest r id e es rest false f back (inr h) = elim (back h) [ inl p ↦ inl p | inr g ↦ inr (inr g) ]

-- what stands among ranges with one more is this one, or stood there
pub has_with_range : (r : Range) (id : ℕ) (held : Ranges ℕ) (f : Range × ℕ) → Has (with_range r id held) f → ((r, id) ≡ f) ⊎ Has held f
has_with_range r id [] f h = h
has_with_range r id (e ∷ es) f h = first_or_rest r id e es (with_range r id es) (is_below r.low e.0.low) f (has_with_range r id es f) h

-- without the bounds of a range that meets none of them the ranges are those that were
others_stay : (r : Range) (held : Ranges ℕ) → is_open r ≡ true → is_free held r ≡ true → without_range r held ≡ held
others_stay r [] not_empty free = refl
others_stay r (e ∷ es) not_empty free =
    let parts = and_parts (not (meets e.0 r)) (is_free es r) free in
    ap (λ (x : Bool). cond (not x) (e ∷ without_range r es) (without_range r es)) (other_bounds r e.0 not_empty (not-true (meets e.0 r) parts.0))
    ∙ ap (λ (l : Ranges ℕ). e ∷ l) (others_stay r es not_empty parts.1)

back_by : (r : Range) (id : ℕ) (e : Range × ℕ) (es : Ranges ℕ) (x : Bool) → same_range r e.0 ≡ false → without_range r es ≡ es → without_range r (with_range r id es) ≡ es →
    without_range r (cond x ((r, id) ∷ e ∷ es) (e ∷ with_range r id es)) ≡ e ∷ es
back_by r id e es true other rest back =
    ap (λ (y : Bool). cond (not y) ((r, id) ∷ without_range r (e ∷ es)) (without_range r (e ∷ es))) (same_bounds r)
    ∙ ap (λ (y : Bool). cond (not y) (e ∷ without_range r es) (without_range r es)) other
    ∙ ap (λ (l : Ranges ℕ). e ∷ l) rest
back_by r id e es false other rest back =
    ap (λ (y : Bool). cond (not y) (e ∷ without_range r (with_range r id es)) (without_range r (with_range r id es))) other
    ∙ ap (λ (l : Ranges ℕ). e ∷ l) back

-- a range that meets none of the others, put in and taken out again, leaves those that were
pub back_out : (r : Range) (id : ℕ) (held : Ranges ℕ) → is_open r ≡ true → is_free held r ≡ true → without_range r (with_range r id held) ≡ held
back_out r id [] not_empty free = ap (λ (x : Bool). cond (not x) ((r, id) ∷ []) []) (same_bounds r)
back_out r id (e ∷ es) not_empty free =
    let parts = and_parts (not (meets e.0 r)) (is_free es r) free in
    back_by r id e es (is_below r.low e.0.low) (other_bounds r e.0 not_empty (not-true (meets e.0 r) parts.0)) (others_stay r es not_empty parts.1) (back_out r id es not_empty parts.1)

-- ---- how places change

module _ {K : Type 0} where
  -- one cell keeps one place
  pub one_place : (keeps : ℕ → Option (K × Range)) (id : ℕ) (at other : K) (r s : Range) → KeepsPlace keeps id at r → KeepsPlace keeps id other s → (at ≡ other) × (r ≡ s)
  one_place keeps id at other r s h g = let e = same_Some (at, r) (other, s) (sym h ∙ g) in (ap (λ (p : K × Range). p.0) e, ap (λ (p : K × Range). p.1) e)

  -- a cell keeps no place any more, and what the others keep
  pub record IsVacated (old new : ℕ → Option (K × Range)) (id : ℕ) : Type 0 where
    pub none : new id ≡ None
    pub others : (other : ℕ) → other ≢ id → new other ≡ old other

  -- a cell keeps a place that kept none, and what the others keep
  pub record IsOccupied (old new : ℕ → Option (K × Range)) (id : ℕ) (at : K) (range : Range) : Type 0 where
    pub none : old id ≡ None
    pub here : KeepsPlace new id at range
    pub others : (other : ℕ) → other ≢ id → new other ≡ old other

  -- another cell kept the place
  pub record KeptByOther (old : ℕ → Option (K × Range)) (id q : ℕ) (at : K) (r : Range) : Type 0 where
    pub other : q ≢ id
    pub before : KeepsPlace old q at r

  -- a cell that kept a place is another than one that kept none
  other_than : (old : ℕ → Option (K × Range)) (id q : ℕ) (a : K) (r : Range) → old id ≡ None → KeepsPlace old q a r → q ≢ id
  other_than old id q a r none h = λ e. none-some (a, r) (sym none ∙ subst (λ (k : ℕ). KeepsPlace old k a r) e h)

  -- ---- ranges that are listed are kept

  -- what is listed is kept
  pub has_kept : (keeps : ℕ → Option (K × Range)) (held : K → Ranges ℕ) (id : ℕ) (at : K) (range : Range) → AreKept keeps held → Has (held at) (range, id) → KeepsPlace keeps id at range
  has_kept keeps held id at range kept h = kept id at range (contains_from_has (held at) (range, id) h)

  -- where each cell keeps what it kept
  pub kept_still : (old new : ℕ → Option (K × Range)) (held : K → Ranges ℕ) → ((id : ℕ) → new id ≡ old id) → AreKept old held → AreKept new held
  kept_still old new held same kept id at range h = same id ∙ kept id at range h

  -- where the same is listed
  pub kept_same : (keeps : ℕ → Option (K × Range)) (old new : K → Ranges ℕ) → ListsTheSame old new → AreKept keeps old → AreKept keeps new
  kept_same keeps old new same kept id at range h = kept id at range (subst (λ (ranges : Ranges ℕ). Contains ranges (range, id)) (same at) h)

  -- a range that is listed without one, and is not this one
  unlisted_by : (old : ℕ → Option (K × Range)) (held new_held : K → Ranges ℕ) (id : ℕ) (at : K) (q : ℕ) (a : K) (range r : Range) → AreKept old held → KeepsPlace old id at range →
      ListsInstead at (without_range range (held at)) held new_held → Has (new_held a) (r, q) → (a ≡ at) ⊎ (a ≡ at → ⊥) → KeptByOther old id q a r
  unlisted_by old held new_held id at q a range r kept here listed h (inl e) =
      let h_at : Has (new_held at) (r, q) = subst (λ (b : K). Has (new_held b) (r, q)) e h in
      let found = has_filter (λ (f : Range × ℕ). not (same_range range f.0)) (held at) (r, q) (subst (λ (ranges : Ranges ℕ). Has ranges (r, q)) listed.here h_at) in
      let there : KeepsPlace old q at r = has_kept old held q at r kept found.1 in
      record {
        other = λ one. false≢true (sym (not-true (same_range range r) found.0) ∙
            subst (λ (s : Range). same_range range s ≡ true) (one_place old id at at range r here (subst (λ (k : ℕ). KeepsPlace old k at r) one there)).1 (same_bounds range));
        before = subst (λ (b : K). KeepsPlace old q b r) (sym e) there;
      }
  unlisted_by old held new_held id at q a range r kept here listed h (inr other) =
      let there : KeepsPlace old q a r = has_kept old held q a r kept (subst (λ (ranges : Ranges ℕ). Has ranges (r, q)) (listed.others a other) h) in
      record {
        other = λ one. other (one_place old id a at r range (subst (λ (k : ℕ). KeepsPlace old k a r) one there) here).0;
        before = there;
      }

  -- where a cell has left its place, which is not listed any more; two joins are the same, or they are not
  pub kept_left : ((a b : K) → (a ≡ b) ⊎ (a ≡ b → ⊥)) → (old new : ℕ → Option (K × Range)) (held new_held : K → Ranges ℕ) (id : ℕ) (at : K) (range : Range) → AreKept old held → KeepsPlace old id at range →
      IsVacated old new id → ListsInstead at (without_range range (held at)) held new_held → AreKept new new_held
  kept_left alike old new held new_held id at range kept here left listed q a r h =
      let k = unlisted_by old held new_held id at q a range r kept here listed (has_from_contains (new_held a) (r, q) h) (alike a at) in
      left.others q k.other ∙ k.before

  -- a range that is listed with one more is this one, or was listed
  pub listed_cases : (held new_held : K → Ranges ℕ) (id : ℕ) (at : K) (q : ℕ) (a : K) (range r : Range) → ListsInstead at (with_range range id (held at)) held new_held → Has (new_held a) (r, q) → (a ≡ at) ⊎ (a ≡ at → ⊥) →
      ((q ≡ id) × (a ≡ at) × (r ≡ range)) ⊎ Has (held a) (r, q)
  listed_cases held new_held id at q a range r listed h (inl e) =
      elim (has_with_range range id (held at) (r, q) (subst (λ (ranges : Ranges ℕ). Has ranges (r, q)) listed.here (subst (λ (b : K). Has (new_held b) (r, q)) e h))) [
        | inl p ↦ inl (ap (λ (f : Range × ℕ). f.1) (sym p), e, ap (λ (f : Range × ℕ). f.0) (sym p))
        | inr g ↦ inr (subst (λ (b : K). Has (held b) (r, q)) (sym e) g)
      ]
  listed_cases held new_held id at q a range r listed h (inr other) = inr (subst (λ (ranges : Ranges ℕ). Has ranges (r, q)) (listed.others a other) h)

  keeps_by : (old new : ℕ → Option (K × Range)) (held : K → Ranges ℕ) (id : ℕ) (at : K) (range : Range) (q : ℕ) (a : K) (r : Range) → AreKept old held → IsOccupied old new id at range →
      ((q ≡ id) × (a ≡ at) × (r ≡ range)) ⊎ Has (held a) (r, q) → KeepsPlace new q a r
  keeps_by old new held id at range q a r kept taken (inl (one, place, same)) =
      subst (λ (k : ℕ). KeepsPlace new k a r) (sym one) (subst (λ (b : K). KeepsPlace new id b r) (sym place) (subst (λ (t : Range). KeepsPlace new id at t) (sym same) taken.here))
  keeps_by old new held id at range q a r kept taken (inr h) =
      let before = has_kept old held q a r kept h in taken.others q (other_than old id q a r taken.none before) ∙ before

  -- where a cell has taken a place, which is listed with its number
  pub kept_taken : ((a b : K) → (a ≡ b) ⊎ (a ≡ b → ⊥)) → (old new : ℕ → Option (K × Range)) (held new_held : K → Ranges ℕ) (id : ℕ) (at : K) (range : Range) → AreKept old held → IsOccupied old new id at range →
      ListsInstead at (with_range range id (held at)) held new_held → AreKept new new_held
  kept_taken alike old new held new_held id at range kept taken listed q a r h =
      keeps_by old new held id at range q a r kept taken (listed_cases held new_held id at q a range r listed (has_from_contains (new_held a) (r, q) h) (alike a at))

-- ---- slots that keep places

module _ {S K : Type 0} (place_of : S → Option (K × Range)) where
  -- the place of a slot that stands at a number
  pub place_from_slot : (slots : List S) (id : ℕ) (slot : S) → slice_get slots id ≡ Some slot → place_in place_of slots id ≡ place_of slot
  place_from_slot slots id slot h = ap (λ o. option_and_then place_of o) h

  -- the place that is kept where a slot is set
  pub place_set : (slots : List S) (id : ℕ) (slot : S) → id < length slots → place_in place_of (slice_set slots id slot) id ≡ place_of slot
  place_set slots id slot less = place_from_slot (slice_set slots id slot) id slot (get-set_same slots id slot less)

  -- every other one stays
  pub place_other : (slots : List S) (id other : ℕ) (slot : S) → other ≢ id → place_in place_of (slice_set slots id slot) other ≡ place_in place_of slots other
  place_other slots id other slot apart = ap (λ o. option_and_then place_of o) (get-set_other slots id other slot apart)

  same_by : (slots : List S) (id : ℕ) (old slot : S) → slice_get slots id ≡ Some old → place_of slot ≡ place_of old → (other : ℕ) → (other ≡ id) ⊎ (other ≡ id → ⊥) →
      place_in place_of (slice_set slots id slot) other ≡ place_in place_of slots other
  same_by slots id old slot was same other (inl e) = subst (λ (q : ℕ). place_in place_of (slice_set slots id slot) q ≡ place_in place_of slots q) (sym e)
      (place_set slots id slot (slice_get_within slots id old was) ∙ same ∙ sym (place_from_slot slots id old was))
  same_by slots id old slot was same other (inr apart) = place_other slots id other slot apart

  -- where the slot that is set keeps the place of the old one, all places stay
  pub same_places : (slots : List S) (id : ℕ) (old slot : S) → slice_get slots id ≡ Some old → place_of slot ≡ place_of old → (other : ℕ) → place_in place_of (slice_set slots id slot) other ≡ place_in place_of slots other
  same_places slots id old slot was same other = same_by slots id old slot was same other (cases_eq other id)

  -- a slot that keeps no place is set where one kept a place
  pub vacated_by_set : (slots : List S) (id : ℕ) (old slot : S) → slice_get slots id ≡ Some old → place_of slot ≡ None → IsVacated (place_in place_of slots) (place_in place_of (slice_set slots id slot)) id
  vacated_by_set slots id old slot was none = record {
    none = place_set slots id slot (slice_get_within slots id old was) ∙ none;
    others = λ other apart. place_other slots id other slot apart;
  }

  -- a slot that keeps a place is set where one kept none
  pub occupied_by_set : (slots : List S) (id : ℕ) (at : K) (range : Range) (old slot : S) → slice_get slots id ≡ Some old → place_of old ≡ None → place_of slot ≡ Some (at, range) →
      IsOccupied (place_in place_of slots) (place_in place_of (slice_set slots id slot)) id at range
  occupied_by_set slots id at range old slot was none place = record {
    none = place_from_slot slots id old was ∙ none;
    here = place_set slots id slot (slice_get_within slots id old was) ∙ place;
    others = λ other apart. place_other slots id other slot apart;
  }
