-- Slots after a text was given to a place, and slots that are copied one by one.
use Rattle.std.proofs.Common.{◌≡◌, ℕ, zero, suc, ◌+◌, ◌<◌, ◌≤◌, true, false, List, [], ◌∷◌, ◌++◌, length, map, take, drop, replicate, get_or, nat_le, Option, None, Some, is_some, IsSome, option_map, slice_set, String, refl, subst, sym, ap, ◌∙◌, arith, ⊎_elim, append_assoc, append-nil, length-append}
use Rattle.std.specs.Borrow.{Bor}
use Rattle.std.specs.Option.{option_copied, option_flatten}
use Rattle.std.specs.String.{string_bytes}
use Rattle.std.specs.declared.alloc.Global.{Global}
use Rattle.std.proofs.lemmas.List.{length-set, length-map, length-take-le, map-set, get_or-map, take_more, take_all, take-map, same_lists}
use Rattle.std.proofs.lemmas.Bool.{cases_eq, true≢false}
use Rattle.std.proofs.lemmas.Option.{none-some, slice_get-get_or}
use Rattle.semantics.specs.Texts.{Text, has_bar}
use Rattle.semantics.specs.Patterns.{Pattern, Slots, no_slots, text_at, is_pattern, segments, bind, Fits}
use Rattle.semantics.proofs.BindLemmas.{text_at-set_cases, texts-no_slots, length-bind, texts_bind}
use Rattle.semantics.proofs.PatternLemmas.{text_at-set_same, text_at-set_other, length-no_slots, bind_some, segments_of_pattern, take_segment_texts}
use Rattle.key_pattern.specs.Places.{AreSlots, IsSegmentText, CanFill, lent_texts, owned_texts, padded}

-- slots stay slots where a segment's text is given to a place
pub AreSlots-set : (given : Slots) (place : ℕ) (text : Text) → AreSlots given → IsSegmentText text → AreSlots (slice_set given place (Some text))
AreSlots-set given place text are is = record {
  places = length-set given place (Some text) ∙ are.places;
  texts = λ other u e. ⊎_elim
      (λ (q : (other ≡ place) × (text ≡ u)). (subst (λ v. nat_le 1 (length v) ≡ true) q.1 is.long, subst (λ v. has_bar v ≡ false) q.1 is.lacks))
      (λ at. are.texts other u at)
      (text_at-set_cases given place other text u e);
}

-- a text that is left after another one was taken away
left_after : (given : Slots) (place other : ℕ) (u : Text) → place < length given → text_at other (slice_set given place None) ≡ Some u → text_at other given ≡ Some u
left_after given place other u less e = ⊎_elim
    (λ (q : other ≡ place). absurd (none-some u (sym (text_at-set_same given place None less) ∙ ap (λ k. text_at k (slice_set given place None)) (sym q) ∙ e)))
    (λ q. sym (text_at-set_other given place other None q) ∙ e)
    (cases_eq other place)

-- and where the text at a place is taken away
pub AreSlots-clear : (given : Slots) (place : ℕ) → place < 16 → AreSlots given → AreSlots (slice_set given place None)
AreSlots-clear given place less are = record {
  places = length-set given place None ∙ are.places;
  texts = λ other u e. are.texts other u (left_after given place other u (omega (arith, are.places)) e);
}

-- no slots are slots
pub AreSlots-none : AreSlots no_slots
AreSlots-none = record { places = length-no_slots; texts = texts-no_slots }

-- one more element that is copied, as f sees it
pub copied_more : {A B : Type 0} (f : A → B) (xs : List A) (done : List B) (i : ℕ) (d : A) (y : B) → i < length xs → done ≡ take i (map f xs) → y ≡ f (get_or xs i d) → done ++ y ∷ [] ≡ take (i + 1) (map f xs)
copied_more f xs done i d y within h e =
    let inside : i < length (map f xs) = omega (arith, length-map xs f) in
    let same : get_or (map f xs) i y ≡ y = get_or-map f xs i d y within ∙ sym e in
    ap (λ s. s ++ y ∷ []) h ∙ ap (λ z. take i (map f xs) ++ z ∷ []) (sym same) ∙ sym (take_more (map f xs) i y inside)

-- ---- texts at the first places

-- of so many equal elements the rest begins with one of them
rest_of_equals : {A : Type 0} (n i : ℕ) (x : A) → i < n → drop i (replicate n x) ≡ x ∷ drop (suc i) (replicate n x)
rest_of_equals zero i x less = absurd (omega arith)
rest_of_equals (suc n) zero x less = refl
rest_of_equals (suc n) (suc i) x less = rest_of_equals n i x (omega arith)

-- an element is set that stands behind others
set_behind : {A : Type 0} (xs rest : List A) (x y : A) → slice_set (xs ++ x ∷ rest) (length xs) y ≡ xs ++ y ∷ rest
set_behind [] rest x y = refl
set_behind (z ∷ xs) rest x y = ap (λ l. z ∷ l) (set_behind xs rest x y)

-- one more text, and none at the places behind it
padded_more : (given : Slots) (y : Option Text) → padded (given ++ y ∷ []) ≡ given ++ y ∷ drop (suc (length given)) no_slots
padded_more given y =
    let one : length (given ++ y ∷ []) ≡ suc (length given) = omega (arith, length-append given (y ∷ [])) in
    append_assoc given (y ∷ []) (drop (length (given ++ y ∷ [])) no_slots)
    ∙ ap (λ n. given ++ y ∷ drop n no_slots) one

-- at the first place behind the texts there is none
padded_rest : (given : Slots) → length given < 16 → padded given ≡ given ++ None ∷ drop (suc (length given)) no_slots
unfolding no_slots
padded_rest given less = ap (λ s. given ++ s) (rest_of_equals 16 (length given) None less)

-- no text more
pub padded_none : (given : Slots) → length given < 16 → padded (given ++ None ∷ []) ≡ padded given
padded_none given less = padded_more given None ∙ sym (padded_rest given less)

-- a text is set at the first place that has none
pub padded_set : (given : Slots) (y : Option Text) → length given < 16 → slice_set (padded given) (length given) y ≡ padded (given ++ y ∷ [])
padded_set given y less =
    ap (λ s. slice_set s (length given) y) (padded_rest given less)
    ∙ set_behind given (drop (suc (length given)) no_slots) None y
    ∙ sym (padded_more given y)

-- texts at all places
pub padded_all : (given : Slots) → length given ≡ 16 → padded given ≡ given
unfolding no_slots
padded_all given long = ap (λ n. given ++ drop n no_slots) long ∙ append-nil given

-- no more places than all
pub few_of_slots : (given : Slots) → length (padded given) ≡ 16 → length given ≤ 16
few_of_slots given long = omega (arith, length-append given (drop (length given) no_slots))

-- one more text is lent
pub lent_more : (own : List (Option (String Global))) (lent : List (Option (Bor Text))) (i : ℕ) (item : Option (String Global)) (x : Option (Bor Text))
    → length own ≤ 16 → i < length own → item ≡ get_or own i item → option_copied x ≡ option_map string_bytes item
    → lent_texts lent ≡ padded (take i (map (option_map string_bytes) own)) → lent_texts (slice_set lent i x) ≡ padded (take (i + 1) (map (option_map string_bytes) own))
lent_more own lent i item x few within at e h =
    let texts = map (option_map string_bytes) own in
    let some : length (take i texts) ≡ i = length-take-le i texts (omega (arith, length-map own (option_map (string_bytes {Z = Global})))) in
    map-set option_copied lent i x
    ∙ ap (λ s. slice_set s i (option_copied x)) h
    ∙ ap (λ n. slice_set (padded (take i texts)) n (option_copied x)) (sym some)
    ∙ padded_set (take i texts) (option_copied x) (omega (arith, some))
    ∙ ap padded (copied_more (option_map string_bytes) own (take i texts) i item (option_copied x) within refl (e ∙ ap (option_map string_bytes) at))

-- all texts are owned
pub all_owned : (own : List (Option (String Global))) (lent : List (Option (Bor Text))) (used i : ℕ) (given : Slots) → length (take used lent) ≤ i
    → map (option_map string_bytes) own ≡ take i (lent_texts (take used lent)) → lent_texts lent ≡ given → padded (take used given) ≡ given → owned_texts own ≡ given
all_owned own lent used i given end h is all =
    let few : length (lent_texts (take used lent)) ≤ i = omega (arith, end, length-map (take used lent) (option_copied {T = Text})) in
    ap padded (h ∙ take_all i (lent_texts (take used lent)) few ∙ sym (take-map option_copied used lent) ∙ ap (take used) is) ∙ all

-- all texts are lent
pub lent_all : (own : List (Option (String Global))) (lent : List (Option (Bor Text))) (i : ℕ) → length own ≤ i
    → lent_texts lent ≡ padded (take i (map (option_map string_bytes) own)) → lent_texts lent ≡ owned_texts own
lent_all own lent i end h =
    h ∙ ap padded (take_all i (map (option_map string_bytes) own) (omega (arith, length-map own (option_map (string_bytes {Z = Global})))))

-- ---- slots of a key that was bound

-- what a key binds slots to are slots
pub AreSlots-bind : (p : Pattern) (key : Text) (given found : Slots) → is_pattern p ≡ true → AreSlots given → bind p key given ≡ Some found → AreSlots found
AreSlots-bind p key given found ok are e = record {
  places = length-bind p key given found e ∙ are.places;
  texts = texts_bind p key given found are.texts e;
}

-- a key that fits under slots can be filled from them
pub can_fill-fits : (p : Pattern) (key : Text) (given : Slots) → Fits p key given → CanFill p given
can_fill-fits p key given h = ap is_some (take_segment_texts p (segments key) given h)

-- a key that was bound can be filled from the slots that it gave
pub can_fill-bind : (p : Pattern) (key : Text) (given found : Slots) → is_pattern p ≡ true → AreSlots given → bind p key given ≡ Some found → CanFill p found
can_fill-bind p key given found ok are e = can_fill-fits p key found (bind_some p key given found (segments_of_pattern p ok) are.places e).takes

-- ---- slots place by place

-- the text at a place is the list's element there
text_at_place : (given : Slots) (place : ℕ) (d : Option Text) → place < length given → text_at place given ≡ get_or given place d
text_at_place given place d less = ap option_flatten (slice_get-get_or given place d less)

-- slots with the same text at each place are the same
pub same_by_places : (given other : Slots) → length given ≡ 16 → length other ≡ 16 → ((place : ℕ) → place < 16 → text_at place given ≡ text_at place other) → given ≡ other
same_by_places given other long as_long same = same_lists given other (long ∙ sym as_long) (λ place d less.
    sym (text_at_place given place d less) ∙ same place (omega arith) ∙ text_at_place other place d (omega arith))

-- a place with no text adds nothing
pub padded_without : (given : Slots) (place : ℕ) → length given ≡ 16 → place < 16 → text_at place given ≡ None → padded (take (place + 1) given) ≡ padded (take place given)
padded_without given place long less none =
    let inside : place < length given = omega (arith, long) in
    let some : length (take place given) ≡ place = length-take-le place given (omega arith) in
    ap padded (take_more given place None inside ∙ ap (λ x. take place given ++ x ∷ []) (sym (text_at_place given place None inside) ∙ none))
    ∙ padded_none (take place given) (omega (arith, some))

-- a place at which a text was seen is the last one of those up to it
pub last_has : (given : Slots) (place n : ℕ) (x : Option (Bor Text)) → option_copied x ≡ text_at place given → is_some x ≡ true → place + 1 ≡ n + 1 → IsSome (text_at n given)
last_has given place n None at is same = absurd (true≢false (sym is))
last_has given place n (Some text) at is same =
    let n_is : place ≡ n = omega (arith, same) in
    ap is_some (sym (at ∙ ap (λ i. text_at i given) n_is))

-- where no text is lent there is none
pub none_lent : (x : Option (Bor Text)) → is_some x ≡ false → option_copied x ≡ None
none_lent None is = refl
none_lent (Some text) is = absurd (true≢false is)
