-- The slots of one pattern alone.
use Rattle.std.proofs.Common.{◌≡◌, ◌⊎◌, ℕ, ◌<◌, Bool, true, false, cond, ◌||◌, ◌==◌, nat_lt, nat_le, [], ◌∷◌, length, fold, Option, Some, None, refl, sym, ap, ◌∙◌, subst, inl, inr, ⊎_elim, arith, eqb-true, eq-eqb, ltb-true}
use Rattle.std.specs.List.{list_all}
use Rattle.std.proofs.lemmas.Bool.{and_parts, false≢true}
use Rattle.std.proofs.lemmas.List.{length-set}
use Rattle.semantics.specs.Texts.{Text}
use Rattle.semantics.specs.Patterns.{Segment, literal, slot, Pattern, Slots, no_slots, text_at, is_segment}
use Rattle.semantics.specs.Joins.{slots_of, occurs}
use Rattle.semantics.proofs.PatternLemmas.{text_at-set_same, text_at-set_other, text_at-no_slots, length-no_slots}
use Rattle.key_ranges.specs.Containing.{kept_at, with_slot, only}
use Rattle.key_ranges.specs.ContainingLaws.{OnlyHasPlaces, OnlyIsGiven}

-- the kept slots have the given text at the place, or none
abbrev KeepsAt : Slots → Slots → ℕ → Type 0
KeepsAt given kept place = (text_at place kept ≡ text_at place given) ⊎ (text_at place kept ≡ None)

-- the places stay as many
length-kept : (o : Option Text) (at : ℕ) (kept : Slots) → length (kept_at o at kept) ≡ length kept
length-kept None at kept = refl
length-kept (Some t) at kept = length-set kept at (Some t)

-- one segment leaves the places as many
length-with_slot : (s : Segment) (given kept : Slots) → length (with_slot given kept s) ≡ length kept
length-with_slot (literal l) given kept = refl
length-with_slot (slot place width) given kept = length-kept (text_at place given) place kept

-- so do all
length-folded : (p : Pattern) (given kept : Slots) → length (fold (with_slot given) kept p) ≡ length kept
length-folded [] given kept = refl
length-folded (s ∷ ss) given kept = length-folded ss given (with_slot given kept s) ∙ length-with_slot s given kept

-- the slots of one pattern alone have 16 places
pub only_has_places : OnlyHasPlaces
unfolding only
only_has_places p given = length-folded p given no_slots ∙ length-no_slots

-- at the place itself the given text stands then
kept_same : (given kept : Slots) (at : ℕ) (o : Option Text) → text_at at given ≡ o → at < length kept → KeepsAt given kept at → text_at at (kept_at o at kept) ≡ text_at at given
kept_same given kept at None e within (inl h) = h
kept_same given kept at None e within (inr h) = h ∙ sym e
kept_same given kept at (Some t) e within h = text_at-set_same kept at (Some t) within ∙ sym e

-- at another place nothing changes
kept_other : (kept : Slots) (at place : ℕ) (o : Option Text) → (place ≡ at → ⊥) → text_at place (kept_at o at kept) ≡ text_at place kept
kept_other kept at place None n = refl
kept_other kept at place (Some t) n = text_at-set_other kept at place (Some t) n

-- one of two that are the same
either : (x : Bool) (o r : Option Text) → r ≡ o → cond x o r ≡ o
either true o r e = refl
either false o r e = e

-- what the other segments then have at the place
abbrev FoldsTo : Pattern → Slots → ℕ → Slots → Type 0
FoldsTo p given place kept =
    text_at place (fold (with_slot given) kept p) ≡ cond (occurs place (slots_of p)) (text_at place given) (text_at place kept)

-- the slot of one place, and then the others
slot_kept : (p : Pattern) (given kept : Slots) (at place : ℕ) (x : Bool) → (at == place) ≡ x → at < length kept → KeepsAt given kept place
    → (KeepsAt given (kept_at (text_at at given) at kept) place → FoldsTo p given place (kept_at (text_at at given) at kept))
    → text_at place (fold (with_slot given) (kept_at (text_at at given) at kept) p)
    ≡ cond (x || occurs place (slots_of p)) (text_at place given) (text_at place kept)
slot_kept p given kept at place true e within keeps rest =
    let here : at ≡ place = eqb-true at place e in
    let next = kept_at (text_at at given) at kept in
    let same : text_at place next ≡ text_at place given =
    subst (λ k. text_at k next ≡ text_at k given) here (kept_same given kept at (text_at at given) refl within (subst (KeepsAt given kept) (sym here) keeps)) in
    rest (inl same) ∙ either (occurs place (slots_of p)) (text_at place given) (text_at place next) same
slot_kept p given kept at place false e within keeps rest =
    let next = kept_at (text_at at given) at kept in
    let same : text_at place next ≡ text_at place kept = kept_other kept at place (text_at at given) (λ q. false≢true (sym e ∙ eq-eqb at place (sym q))) in
    rest (⊎_elim (λ (h : text_at place kept ≡ text_at place given). inl (same ∙ h)) (λ h. inr (same ∙ h)) keeps)
    ∙ ap (cond (occurs place (slots_of p)) (text_at place given)) same

-- from kept slots on
folds : (p : Pattern) (given kept : Slots) (place : ℕ) → list_all is_segment p ≡ true → length kept ≡ 16 → KeepsAt given kept place → FoldsTo p given place kept
folds [] given kept place ok long keeps = refl
folds (literal l ∷ ss) given kept place ok long keeps =
    folds ss given kept place (and_parts (is_segment (literal l)) (list_all is_segment ss) ok).1 long keeps
folds (slot at width ∷ ss) given kept place ok long keeps =
    let parts = and_parts (is_segment (slot at width)) (list_all is_segment ss) ok in
    let small : at < 16 = ltb-true at 16 (and_parts (nat_lt at 16) (nat_le width 64) parts.0).0 in
    slot_kept ss given kept at place (at == place) refl (omega (arith, small, long)) keeps
    (λ next. folds ss given (kept_at (text_at at given) at kept) place parts.1 (length-kept (text_at at given) at kept ∙ long) next)

-- the slots of one pattern alone have the given text at each place that occurs among the pattern's slots, and none at every other place
pub only_is_given : OnlyIsGiven
unfolding only
only_is_given p given place ok =
    folds p given no_slots place ok length-no_slots (inr (text_at-no_slots place))
    ∙ ap (cond (occurs place (slots_of p)) (text_at place given)) (text_at-no_slots place)
