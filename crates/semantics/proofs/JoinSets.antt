-- Sets of joins: overlaps go both ways, and what a set with one more join has.
use Rattle.std.proofs.Common.{◌≡◌, ℕ, inl, inr, List, [], ◌∷◌, ◌++◌, Bool, true, false, cond, ◌||◌, eqb, eqb-true, eq-eqb, Option, Some, None, option_map, find, refl, sym}
use Rattle.std.specs.List.{AllByRecursion}
use Rattle.std.proofs.lemmas.Bool.{cases_Bool, or_cases, or_left, or_right, and_parts, and_from, false_from_ne_true, both_ways}
use Rattle.std.proofs.lemmas.Slice.Eq.{bytes_eq-Decides}
use Rattle.semantics.specs.Patterns.{Segment, literal, slot, Pattern, segments_meet, overlaps}
use Rattle.semantics.specs.Joins.{Join}
use Rattle.semantics.specs.Histories.{DeclaredJoin}
use Rattle.semantics.specs.States.{AreApart}
use Rattle.semantics.specs.Verdicts.{Cause, first_cause, joined}

-- segments meet both ways
pub segments_meet-sym : (s t : Segment) → segments_meet s t ≡ true → segments_meet t s ≡ true
segments_meet-sym (literal l) (literal m) h = (bytes_eq-Decides m l).1 (sym ((bytes_eq-Decides l m).0 h))
segments_meet-sym (literal l) (slot place width) h = h
segments_meet-sym (slot place width) (literal l) h = h
segments_meet-sym (slot place width) (slot other asked) h =
    elim (or_cases (eqb width 0 || eqb asked 0) (eqb width asked) h) [
      | inl e ↦ elim (or_cases (eqb width 0) (eqb asked 0) e) [
        | inl f ↦ or_left (eqb asked 0 || eqb width 0) (eqb asked width) (or_right (eqb asked 0) (eqb width 0) f)
        | inr f ↦ or_left (eqb asked 0 || eqb width 0) (eqb asked width) (or_left (eqb asked 0) (eqb width 0) f)
      ]
      | inr e ↦ or_right (eqb asked 0 || eqb width 0) (eqb asked width) (eq-eqb asked width (sym (eqb-true width asked e)))
    ]

-- patterns overlap both ways
pub overlaps-sym : (p q : Pattern) → overlaps p q ≡ true → overlaps q p ≡ true
overlaps-sym [] [] h = h
overlaps-sym [] (t ∷ ts) h = h
overlaps-sym (s ∷ ss) [] h = h
overlaps-sym (s ∷ ss) (t ∷ ts) h =
    let both = and_parts (segments_meet s t) (overlaps ss ts) h in
    and_from (segments_meet t s) (overlaps ts ss) (segments_meet-sym s t both.0) (overlaps-sym ss ts both.1)

-- patterns that do not overlap do not either way
pub overlaps-sym_false : (p q : Pattern) → overlaps p q ≡ false → overlaps q p ≡ false
overlaps-sym_false p q h = false_from_ne_true (overlaps q p) (λ e. both_ways (overlaps p q) h (overlaps-sym q p e))

-- where there is no first cause, none is the first
pub first_cause-None : (c : Option Cause) (cs : List (Option Cause)) → first_cause (c ∷ cs) ≡ None → (c ≡ None) × (first_cause cs ≡ None)
first_cause-None None cs h = (refl, h)
first_cause-None (Some cause) cs h = cc

-- a value that is there where a test holds is not there: the test fails
pub test-from_None : {X : Type 0} (b : Bool) (x : X) → cond b (Some x) None ≡ None → b ≡ false
test-from_None true x h = cc
test-from_None false x h = refl

-- the value is there: the test holds
pub test-from_Some : {X : Type 0} (b : Bool) (x y : X) → cond b (Some x) None ≡ Some y → (b ≡ true) × (y ≡ x)
test-from_Some true x y h = (refl, cc)
test-from_Some false x y h = cc

-- a map of an option gives nothing where there is nothing
pub option-from_None : {X Y : Type 0} (f : X → Y) (o : Option X) → option_map f o ≡ None → o ≡ None
option-from_None f None h = refl
option-from_None f (Some x) h = cc

-- where nothing is found each element fails the test
pub AllByRecursion-from_find : {X : Type 0} (p : X → Bool) (xs : List X) → find p xs ≡ None → AllByRecursion (λ x. p x ≡ false) xs
AllByRecursion-from_find p [] h = tt
AllByRecursion-from_find p (x ∷ xs) h = elim (cases_Bool (p x)) [ inl e ↦ absurd (found (p x) x (find p xs) e h) | inr e ↦ (e, AllByRecursion-from_find p xs (rest (p x) x (find p xs) e h)) ]
  where
    found : {X : Type 0} (b : Bool) (x : X) (o : Option X) → b ≡ true → cond b (Some x) o ≡ None → ⊥
    found true x o e h = cc
    found false x o e h = cc

    rest : {X : Type 0} (b : Bool) (x : X) (o : Option X) → b ≡ false → cond b (Some x) o ≡ None → o ≡ None
    rest true x o e h = cc
    rest false x o e h = h

-- joins whose outputs are apart, and one whose output is apart from each
pub AreApart-joined : (joins : List DeclaredJoin) (position : ℕ) (j : Join) → AreApart joins → AllByRecursion (λ s. overlaps j.output s.join.output ≡ false) joins → AreApart (joined joins position j)
AreApart-joined [] position j h k = (tt, tt)
AreApart-joined (s ∷ joins) position j h k = (
  AllByRecursion-last (λ other. overlaps s.join.output other.join.output ≡ false) joins (record { position = position; join = j }) h.0 (overlaps-sym_false j.output s.join.output k.0),
  AreApart-joined joins position j h.1 k.1,
)
  where
    AllByRecursion-last : {X : Type 0} (P : X → Type 0) (xs : List X) (x : X) → AllByRecursion P xs → P x → AllByRecursion P (xs ++ x ∷ [])
    AllByRecursion-last P [] x h p = (p, tt)
    AllByRecursion-last P (y ∷ xs) x h p = (h.0, AllByRecursion-last P xs x h.1 p)
