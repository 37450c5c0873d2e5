-- What stands at numbers, where it is replaced, and the numbers of cells that are found.
use Rattle.std.proofs.Common.{◌≡◌, ℕ, ◌+◌, zero, suc, List, [], ◌∷◌, ◌++◌, map, replicate, slice_get, slice_set, Option, Some, None, is_some, option_map, true, false, ◌⊎◌, inl, inr, refl, sym, ap, ◌∙◌, arith, append_assoc}
use Rattle.std.specs.Option.{option_and_then}
use Rattle.std.proofs.lemmas.Bool.{false≢true}
use Rattle.std.proofs.lemmas.List.{map-append, set-append_left, set-get_or, set-set}
use Rattle.std.proofs.lemmas.Option.{get_or_from_slice_get, none-some, slice_get-map, slice_get_within}
use Rattle.semantics.specs.Texts.{Range}
use Rattle.cell_slots.proofs.PlaceLemmas.{same_places}
use Rattle.shared_cells.specs.declared.ranked_join.RankedJoin.{RankedJoin}
use Rattle.shared_cells.specs.declared.spots.Spot.{Spot}
use Rattle.shared_cells.specs.declared.spots.Spot.TheVariants.{Free}
use Rattle.shared_cells.specs.Spots.{IsPut, IsTakenOut, SpotView, taken, leaving, place_at, place_of, spot_view, free, with_unused}

-- ---- an element is set in a list

-- what stands in a list, set again, leaves the list
set_own : {A : Type 0} (xs : List A) (i : ℕ) (x : A) → slice_get xs i ≡ Some x → slice_set xs i x ≡ xs
set_own xs i x here = ap (slice_set xs i) (sym (get_or_from_slice_get xs i x x here)) ∙ set-get_or xs i x

-- where nothing stands nothing is set
set_nowhere : {A : Type 0} (xs : List A) (i : ℕ) (x : A) → slice_get xs i ≡ None → slice_set xs i x ≡ xs
set_nowhere [] i x none = refl
set_nowhere (y ∷ ys) zero x none = absurd (none-some y (sym none))
set_nowhere (y ∷ ys) (suc i) x none = ap (λ l. y ∷ l) (set_nowhere ys i x none)

-- what is taken out of a list, with something in its place, and put back leaves the list
pub put_back : {A : Type 0} (xs between ys : List A) (i : ℕ) (other x : A) → slice_get xs i ≡ Some x → between ≡ slice_set xs i other → ys ≡ slice_set between i x → ys ≡ xs
put_back xs between ys i other x was first second = second ∙ ap (λ l. slice_set l i x) first ∙ set-set xs i other x ∙ set_own xs i x was

-- what is replaced by itself leaves the list
pub put_same : {A : Type 0} (xs ys : List A) (i : ℕ) (x : A) → slice_get xs i ≡ Some x → ys ≡ slice_set xs i x → ys ≡ xs
put_same xs ys i x was set = set ∙ set_own xs i x was

-- and so does what is put where nothing stood
pub put_nowhere : {A : Type 0} (xs ys : List A) (i : ℕ) (x : A) → slice_get xs i ≡ None → ys ≡ slice_set xs i x → ys ≡ xs
put_nowhere xs ys i x was set = set ∙ set_nowhere xs i x was

-- what is put in place of something that was put there
pub put_instead : {A : Type 0} (xs between ys : List A) (i : ℕ) (other x : A) → between ≡ slice_set xs i other → ys ≡ slice_set between i x → ys ≡ slice_set xs i x
put_instead xs between ys i other x first second = second ∙ ap (λ l. slice_set l i x) first ∙ set-set xs i other x

-- ---- numbers that are not in use

-- where none is in use
pub none_used : {F T : Type 0} (items : List (Spot F T)) (count : ℕ) → items ≡ [] → with_unused (map spot_view items) count ≡ replicate count free
none_used {F} {T} items count none = ap (λ (l : List (Spot F T)). with_unused (map spot_view l) count) none

-- where one more is taken into use, no cell stands there still
pub one_more_used : {F T : Type 0} (old new : List (Spot F T)) (waiting : F) (next : Option ℕ) (count left : ℕ) → new ≡ old ++ Free waiting next ∷ [] → count ≡ left + 1 →
    with_unused (map spot_view new) left ≡ with_unused (map spot_view old) count
one_more_used {F} {T} old new waiting next count left is more =
    let one : suc left ≡ count = omega arith in
    ap (λ (l : List (Spot F T)). with_unused (map spot_view l) left) is
    ∙ ap (λ (l : List SpotView). with_unused l left) (map-append spot_view old (Free waiting next ∷ []))
    ∙ append_assoc (map spot_view old) (free ∷ []) (replicate left free)
    ∙ ap (with_unused (map spot_view old)) one

-- what stands at a number in use stands there among all
pub get_used : (spots : List SpotView) (count id : ℕ) (spot : SpotView) → slice_get spots id ≡ Some spot → slice_get (with_unused spots count) id ≡ Some spot
get_used [] count id spot here = absurd (none-some spot here)
get_used (x ∷ xs) count zero spot here = here
get_used (x ∷ xs) count (suc id) spot here = get_used xs count id spot here

-- and what is put there is put there among all
pub set_used : (spots : List SpotView) (count id : ℕ) (was spot : SpotView) → slice_get spots id ≡ Some was → with_unused (slice_set spots id spot) count ≡ slice_set (with_unused spots count) id spot
set_used spots count id was spot here = sym (set-append_left spots (replicate count free) id spot (slice_get_within spots id was here))

-- a cell that is put at one
pub put_used : (id : ℕ) (join : RankedJoin) (range : Range) (before after : List SpotView) (count : ℕ) → IsPut id join range before after → IsPut id join range (with_unused before count) (with_unused after count)
put_used id join range before after count put = record {
  was = get_used before count id free put.was;
  stands = ap (λ (l : List SpotView). with_unused l count) put.stands ∙ set_used before count id free (taken join range) put.was;
}

-- and one that is taken out of one
pub out_used : (id : ℕ) (join : RankedJoin) (range : Range) (before after : List SpotView) (count : ℕ) → IsTakenOut id join range before after → IsTakenOut id join range (with_unused before count) (with_unused after count)
out_used id join range before after count out = record {
  was = get_used before count id (taken join range) out.was;
  stands = ap (λ (l : List SpotView). with_unused l count) out.stands ∙ set_used before count id (taken join range) leaving out.was;
}

-- at a number that is not in use no cell keeps a place
pub place_used : (spots : List SpotView) (count id : ℕ) → place_at (with_unused spots count) id ≡ place_at spots id
place_used [] zero id = refl
place_used [] (suc count) zero = refl
place_used [] (suc count) (suc id) = place_used [] count id
place_used (x ∷ xs) count zero = refl
place_used (x ∷ xs) count (suc id) = place_used xs count id

-- ---- the cells that stand

-- the place of what is found at a number
pub place_of_found : {F T : Type 0} (items : List (Spot F T)) (count : ℕ) (spots : List SpotView) (id : ℕ) (found : Option (Spot F T)) → found ≡ slice_get items id → with_unused (map spot_view items) count ≡ spots →
    option_and_then place_of (option_map spot_view found) ≡ place_at spots id
place_of_found {F} {T} items count spots id found is seen =
    ap (λ (o : Option (Spot F T)). option_and_then place_of (option_map spot_view o)) is
    ∙ ap (option_and_then place_of) (sym (slice_get-map spot_view items id))
    ∙ sym (place_used (map spot_view items) count id)
    ∙ ap (λ (l : List SpotView). place_at l id) seen

-- where none is found there is no number
pub no_number : {A : Type 0} (o : Option A) (id : ℕ) → false ≡ is_some o → None ≡ option_map (λ _. id) o
no_number None id e = refl
no_number (Some x) id e = absurd (false≢true e)

-- where one is found there is its number
pub some_number : {A : Type 0} (o : Option A) (id : ℕ) → true ≡ is_some o → Some id ≡ option_map (λ _. id) o
some_number None id e = absurd (false≢true (sym e))
some_number (Some x) id e = refl

-- a number that has no cell does not wait for the pass of one
pub free_waits_not : Some free ≡ Some leaving → ⊥
free_waits_not e = cc

-- nor does one that has a cell
pub taken_waits_not : (join : RankedJoin) (range : Range) → Some (taken join range) ≡ Some leaving → ⊥
taken_waits_not join range e = cc

-- nor does one that is not in use
pub unused_waits_not : (spots : List SpotView) (count id : ℕ) → slice_get spots id ≡ None → slice_get (with_unused spots count) id ≡ Some leaving → ⊥
unused_waits_not [] zero id none waits = none-some leaving waits
unused_waits_not [] (suc count) zero none waits = free_waits_not waits
unused_waits_not [] (suc count) (suc id) none waits = unused_waits_not [] count id none waits
unused_waits_not (x ∷ xs) count zero none waits = none-some x (sym none)
unused_waits_not (x ∷ xs) count (suc id) none waits = unused_waits_not xs count id none waits

waits_or_not : (o : Option SpotView) → (o ≡ Some leaving) ⊎ (o ≡ Some leaving → ⊥)
waits_or_not None = inr (λ e. none-some leaving e)
waits_or_not (Some free) = inr free_waits_not
waits_or_not (Some (taken join range)) = inr (taken_waits_not join range)
waits_or_not (Some leaving) = inl refl

back_by : (id : ℕ) (old new : List SpotView) → (slice_get old id ≡ Some leaving → new ≡ slice_set old id free) → ((slice_get old id ≡ Some leaving → ⊥) → new ≡ old) → (other : ℕ) →
    (slice_get old id ≡ Some leaving) ⊎ (slice_get old id ≡ Some leaving → ⊥) → place_at new other ≡ place_at old other
back_by id old new back same other (inl e) = ap (λ (l : List SpotView). place_at l other) (back e) ∙ same_places place_of old id leaving free e refl other
back_by id old new back same other (inr apart) = ap (λ (l : List SpotView). place_at l other) (same apart)

-- where a number that waits is given its pass back, and another is left as it is, each cell keeps the place that it kept
pub back_places : (id : ℕ) (old new : List SpotView) → (slice_get old id ≡ Some leaving → new ≡ slice_set old id free) → ((slice_get old id ≡ Some leaving → ⊥) → new ≡ old) →
    (other : ℕ) → place_at new other ≡ place_at old other
back_places id old new back same other = back_by id old new back same other (waits_or_not (slice_get old id))
