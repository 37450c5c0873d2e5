-- What is covered, by the texts of noted slots.
use Rattle.std.proofs.Common.{◌≡◌, ℕ, zero, suc, ◌+◌, ◌<◌, ◌≤◌, Bool, true, false, cond, List, [], ◌∷◌, ◌++◌, length, take, get_or, Option, None, Some, is_some, MatchOption, IfSome, refl, sym, ap, subst, ◌∙◌, inl, inr, arith, is_eq}
use Rattle.std.specs.List.{AllByRecursion, list_all, list_any}
use Rattle.std.proofs.lemmas.Bool.{false≢true, or_from}
use Rattle.std.proofs.lemmas.List.{take_all, take_more}
use Rattle.std.proofs.lemmas.Option.{none-some}
use Rattle.semantics.specs.Texts.{Text}
use Rattle.semantics.specs.Patterns.{Pattern, Slots, no_slots, text_at, is_segment, is_pattern, Fits, IsPartOf, bind, segments}
use Rattle.semantics.specs.PatternLaws.{IsLeastFit, HasNoFit}
use Rattle.semantics.specs.Joins.{occurs, slots_of as pattern_slots}
use Rattle.semantics.proofs.PatternLemmas.{bind_least, bind_some, length-no_slots, no_slots_part, segments_of_pattern}
use Rattle.semantics.proofs.CopyLemmas.{take_agree}
use Rattle.semantics.proofs.MemberLemmas.{Has, any_from_has}
use Rattle.key_ranges.specs.Containing.{only}
use Rattle.key_ranges.proofs.OnlyLemmas.{only_is_given}
use Rattle.key_pattern.specs.SlotOrder.{slots_cmp, slots_total}
use Rattle.key_pattern.specs.SlotPlaces.{AreAtPlaces, HaveSamePlaces}
use Rattle.key_pattern.proofs.AmongLemmas.{among_has, has_among, put_listed}
use Rattle.key_pattern.proofs.PlaceLemmas.{same_by_places}
use Rattle.key_pattern.proofs.SlotOrderLemmas.{equal_slots}
use Rattle.lazy_log.specs.Held.{slots_of}
use Rattle.lazy_log.specs.Index.{AreOwn, HasAnySought, HasShape, IsIndexed, IsIndexOf, IsSought, is_among}
use Rattle.lazy_log.specs.declared.index.Index.{Index}
use Rattle.lazy_log.specs.declared.log.Noted.{Noted}
use Rattle.lazy_log.proofs.PendingLemmas.{slots_push}

-- ---- a key that fits under slots, and under none

-- a key that fits under slots fits under none
free_fit : (p : Pattern) (key : Text) (slots found : Slots) → list_all is_segment p ≡ true → length slots ≡ 16 → bind p key slots ≡ Some found → bind p key no_slots ≡ None → ⊥
free_fit p key slots found ok long is none =
    subst (λ o. MatchOption o (HasNoFit p key no_slots) (IsLeastFit p key no_slots)) none (bind_least p key no_slots ok length-no_slots)
    found (bind_some p key slots found ok long is).takes (no_slots_part found)

unfit_by : (p : Pattern) (key : Text) (slots : Slots) (o : Option Slots) → list_all is_segment p ≡ true → length slots ≡ 16 → bind p key no_slots ≡ None → bind p key slots ≡ o → is_some o ≡ false
unfit_by p key slots None ok long none is = refl
unfit_by p key slots (Some found) ok long none is = absurd (free_fit p key slots found ok long is none)

-- ---- the texts of a key at the places of slots

-- a text stands at one of the places
within_places : (given : Slots) (place : ℕ) (t : Text) → text_at place given ≡ Some t → place < length given
within_places [] place t e = absurd (none-some t e)
within_places (g ∷ gs) zero t e = omega arith
within_places (g ∷ gs) (suc place) t e = let less = within_places gs place t e in omega arith

part_by : (b : Bool) (o : Option Text) (t : Text) → cond b o None ≡ Some t → o ≡ Some t
part_by true o t e = e
part_by false o t e = absurd (none-some t e)

-- texts at some places are a part of all
at_places_part : (given shape found : Slots) → length found ≡ 16 → AreAtPlaces given shape found → IsPartOf found given
at_places_part given shape found long at = λ place t e.
    let less = within_places found place t e in
    part_by (is_some (text_at place shape)) (text_at place given) t (sym (at place (omega (arith, long))) ∙ e)

fits_by : (p : Pattern) (key : Text) (free sought : Slots) (o : Option Slots) → list_all is_segment p ≡ true → length sought ≡ 16 → bind p key no_slots ≡ Some free → IsPartOf sought free → bind p key sought ≡ o → is_some o ≡ true
fits_by p key free sought None ok long is part none =
    absurd (subst (λ o. MatchOption o (HasNoFit p key sought) (IsLeastFit p key sought)) none (bind_least p key sought ok long)
    free (bind_some p key no_slots free ok length-no_slots is).takes part)
fits_by p key free sought (Some found) ok long is part none = refl

-- a key fits under its texts at some places
fits_at : (p : Pattern) (key : Text) (free shape sought : Slots) → list_all is_segment p ≡ true → length sought ≡ 16 → bind p key no_slots ≡ Some free → AreAtPlaces free shape sought → is_some (bind p key sought) ≡ true
fits_at p key free shape sought ok long is at = fits_by p key free sought (bind p key sought) ok long is (at_places_part free shape sought long at) refl

-- a slot of a pattern that has one of its own texts
occurs_by : (b : Bool) (o : Option Text) → is_some (cond b o None) ≡ true → b ≡ true
occurs_by true o e = refl
occurs_by false o e = e

-- what stands at a place where the slots have this
same_text : (p : Pattern) (key : Text) (free found slots shape sought : Slots) (place : ℕ) (o : Option Text) → list_all is_segment p ≡ true → length slots ≡ 16 → AreOwn p slots →
    bind p key no_slots ≡ Some free → bind p key slots ≡ Some found → HaveSamePlaces slots shape → AreAtPlaces free shape sought → place < 16 → text_at place slots ≡ o → o ≡ text_at place sought
same_text p key free found slots shape sought place None ok long own is fits same at less none =
    let bare : is_some (text_at place shape) ≡ false = sym (same place less) ∙ ap is_some none in
    sym (at place less ∙ ap (λ b. cond b (text_at place free) None) bare)
same_text p key free found slots shape sought place (Some t) ok long own is fits same at less some =
    let set : is_some (text_at place shape) ≡ true = sym (same place less) ∙ ap is_some some in
    let inside : occurs place (pattern_slots p) ≡ true =
    occurs_by (occurs place (pattern_slots p)) (text_at place slots) (ap is_some (sym (only_is_given p slots place ok)) ∙ own place less ∙ ap is_some some) in
    let least = bind_some p key slots found ok long fits in
    let first = bind_some p key no_slots free ok length-no_slots is in
    sym (at place less ∙ ap (λ b. cond b (text_at place free) None) set ∙ take_agree p (segments key) free found first.takes least.takes place inside ∙ least.keeps place t some)

-- slots under which a key fits are its texts at their places
sought_is : (p : Pattern) (key : Text) (free found slots shape sought : Slots) → list_all is_segment p ≡ true → length slots ≡ 16 → length sought ≡ 16 → AreOwn p slots →
    bind p key no_slots ≡ Some free → bind p key slots ≡ Some found → HaveSamePlaces slots shape → AreAtPlaces free shape sought → slots ≡ sought
sought_is p key free found slots shape sought ok long as_long own is fits same at =
    same_by_places slots sought long as_long (λ place less. same_text p key free found slots shape sought place (text_at place slots) ok long own is fits same at less refl)

-- ---- what is found by the shapes

not_found_at : (keys : List Slots) (free slots : Slots) (shapes : List Slots) → AllByRecursion (λ shape. IsSought keys free shape false) shapes → HasShape shapes slots → (shape : Slots) × (HaveSamePlaces slots shape × IsSought keys free shape false)
not_found_at keys free slots [] all has = absurd has
not_found_at keys free slots (s ∷ ss) all (inl same) = (s, (same, all.0))
not_found_at keys free slots (s ∷ ss) all (inr rest) = not_found_at keys free slots ss all.1 rest

each_has : {A : Type 0} (P : A → Type 0) (xs : List A) (x : A) → AllByRecursion P xs → Has xs x → P x
each_has P (y ∷ ys) x all (inl e) = subst P e all.0
each_has P (y ∷ ys) x all (inr h) = each_has P ys x all.1 h
each_has P [] x all h = absurd h

none_listed : {A : Type 0} (test : A → Bool) (xs : List A) → ((x : A) → Has xs x → test x ≡ false) → list_any test xs ≡ false
none_listed test [] each = refl
none_listed test (x ∷ xs) each = or_from (test x) (list_any test xs) (each x (inl refl)) (none_listed test xs (λ y h. each y (inr h)))

-- noted slots under which the key does not fit, where it was not found at the places of any shape
not_covered : (p : Pattern) (key : Text) (free : Slots) (noted : List Slots) (index : Index) (slots : Slots) (o : Option Slots) → list_all is_segment p ≡ true → bind p key no_slots ≡ Some free → IsIndexOf p noted index →
    HasAnySought index.slots.keys free index.shapes.items false → Has noted slots → bind p key slots ≡ o → is_some o ≡ false
not_covered p key free noted index slots None ok is of none has e = refl
not_covered p key free noted index slots (Some found) ok is of none has e =
    let one = each_has (IsIndexed p index) noted slots of.each has in
    let at = not_found_at index.slots.keys free slots index.shapes.items none one.shape in
    let same : slots ≡ at.1.1.sought = sought_is p key free found slots at.0 at.1.1.sought ok one.places at.1.1.places one.own is e at.1.0 at.1.1.at in
    absurd (false≢true (at.1.1.told ∙ ap (is_among index.slots.keys) (sym same) ∙ of.just slots ∙ has_among slots_cmp slots_total noted slots has))

-- a key that fits the output is covered where it is found at the places of some shape
pub covered_is : (p : Pattern) (key : Text) (free : Slots) (noted : List Slots) (index : Index) (has : Bool) → is_pattern p ≡ true → bind p key no_slots ≡ Some free → IsIndexOf p noted index →
    HasAnySought index.slots.keys free index.shapes.items has → has ≡ list_any (λ slots. is_some (bind p key slots)) noted
covered_is p key free noted index true ok is of any =
    let at = any in
    let segs = segments_of_pattern p ok in
    sym (any_from_has (λ slots. is_some (bind p key slots)) noted at.1.sought
    (among_has slots_cmp equal_slots noted at.1.sought (sym (of.just at.1.sought) ∙ sym at.1.told))
    (fits_at p key free at.0 at.1.sought segs at.1.places is at.1.at))
covered_is p key free noted index false ok is of any =
    sym (none_listed (λ slots. is_some (bind p key slots)) noted (λ slots has. not_covered p key free noted index slots (bind p key slots) (segments_of_pattern p ok) is of any has refl))

-- and one that does not is not
pub unfit_is : (p : Pattern) (key : Text) (noted : List Slots) (index : Index) → is_pattern p ≡ true → bind p key no_slots ≡ None → IsIndexOf p noted index → false ≡ list_any (λ slots. is_some (bind p key slots)) noted
unfit_is p key noted index ok none of =
    sym (none_listed (λ slots. is_some (bind p key slots)) noted
    (λ slots has. unfit_by p key slots (bind p key slots) (segments_of_pattern p ok) (each_has (IsIndexed p index) noted slots of.each has).places none refl))

-- ---- shapes, one after another

-- a shape that was read is one of them
pub shape_read : (shapes : List Slots) (slots shape : Slots) (i : ℕ) → i < length shapes → HaveSamePlaces slots (get_or shapes i shape) → HasShape shapes slots
shape_read [] slots shape i less same = absurd (omega arith)
shape_read (s ∷ ss) slots shape zero less same = inl same
shape_read (s ∷ ss) slots shape (suc i) less same = inr (shape_read ss slots shape i (omega arith) same)

-- one shape more
pub shape_push : (shapes : List Slots) (shape slots : Slots) → HasShape shapes slots → HasShape (shapes ++ shape ∷ []) slots
shape_push [] shape slots h = absurd h
shape_push (s ∷ ss) shape slots (inl h) = inl h
shape_push (s ∷ ss) shape slots (inr h) = inr (shape_push ss shape slots h)

pub shape_last : (shapes : List Slots) (slots : Slots) → HasShape (shapes ++ slots ∷ []) slots
shape_last [] slots = inl (λ place less. refl)
shape_last (s ∷ ss) slots = inr (shape_last ss slots)

-- ---- one more in the index

each_push : {A : Type 0} (P : A → Type 0) (xs : List A) (x : A) → AllByRecursion P xs → P x → AllByRecursion P (xs ++ x ∷ [])
each_push P [] x all here = (here, tt)
each_push P (y ∷ ys) x all here = (all.0, each_push P ys x all.1 here)

-- one element more of which something holds
pub all_next : {A : Type 0} (P : A → Type 0) (xs : List A) (i : ℕ) (x : A) → i < length xs → x ≡ get_or xs i x → AllByRecursion P (take i xs) → P x → AllByRecursion P (take (i + 1) xs)
all_next P xs i x less is all here =
    subst (AllByRecursion P) (sym (take_more xs i x less ∙ ap (λ y. take i xs ++ y ∷ []) (sym is))) (each_push P (take i xs) x all here)

-- one of what was noted more
pub noted_next : (output : Pattern) (ns : List Noted) (i : ℕ) (n : Noted) (index : Option Index) → i < length ns → n ≡ get_or ns i n → IfSome index (IsIndexOf output (slots_of (take i ns) ++ n.slots ∷ [])) → IfSome index (IsIndexOf output (slots_of (take (i + 1) ns)))
noted_next output ns i n index less is h =
    subst (λ noted. IfSome index (IsIndexOf output noted))
    (sym (ap slots_of (take_more ns i n less ∙ ap (λ m. take i ns ++ m ∷ []) (sym is)) ∙ slots_push (take i ns) n)) h

-- all that was noted
pub noted_all : (output : Pattern) (ns : List Noted) (i : ℕ) (index : Option Index) → length ns ≤ i → IfSome index (IsIndexOf output (slots_of (take i ns))) → IfSome index (IsIndexOf output (slots_of ns))
noted_all output ns i index past h = subst (λ ms. IfSome index (IsIndexOf output (slots_of ms))) (take_all i ns past) h

-- all shapes
pub shapes_all : (keys : List Slots) (free : Slots) (shapes : List Slots) (i : ℕ) → length shapes ≤ i → AllByRecursion (λ s. IsSought keys free s false) (take i shapes) → AllByRecursion (λ s. IsSought keys free s false) shapes
shapes_all keys free shapes i past all = subst (AllByRecursion (λ s. IsSought keys free s false)) (take_all i shapes past) all

each_wider : (p : Pattern) (old new : Index) (noted : List Slots) → ((slots : Slots) → HasShape old.shapes.items slots → HasShape new.shapes.items slots) → AllByRecursion (IsIndexed p old) noted → AllByRecursion (IsIndexed p new) noted
each_wider p old new [] wider all = tt
each_wider p old new (n ∷ ns) wider all = (record { own = all.0.own; places = all.0.places; shape = wider n all.0.shape }, each_wider p old new ns wider all.1)

pub index_more : (p : Pattern) (noted : List Slots) (old new : Index) (slots : Slots) → IsIndexOf p noted old → AreOwn p slots → length slots ≡ 16 → HasShape new.shapes.items slots →
    ((other : Slots) → HasShape old.shapes.items other → HasShape new.shapes.items other) →
    ((q : Slots) → is_among new.slots.keys q ≡ cond (is_eq (slots_cmp slots q)) true (is_among old.slots.keys q)) → IsIndexOf p (noted ++ slots ∷ []) new
index_more p noted old new slots of own long shape wider put = record {
  just = λ q. put_listed slots_cmp slots_total old.slots.keys new.slots.keys noted slots q (put q) (of.just q);
  each = each_push (IsIndexed p new) noted slots (each_wider p old new noted wider of.each) (record { own = own; places = long; shape = shape });
}
