-- Changes whose keys ascend: those in a range; and keys put in order.
use Rattle.std.proofs.Common.{◌≡◌, ◌↔◌, ℕ, zero, suc, ◌+◌, ◌<◌, ◌≤◌, ◌&&◌, Bool, true, false, not, cond, List, [], ◌∷◌, ◌++◌, length, take, drop, get_or, filter, Contains, Less, is_lt, refl, sym, ap, ◌∙◌, subst, ⊎_elim, arith, append-nil, length-drop}
use Rattle.std.specs.List.{AllByRecursion, AllWithin, dedup}
use Rattle.std.specs.List.Sorted.{IsStrictlySortedBy, IsSorted, IsPermutation, IsPartitionedBy, IsPartitionPoint}
use Rattle.std.specs.Cmp.{IsEquivalence}
use Rattle.std.proofs.lemmas.Bool.{cases_lt}
use Rattle.std.proofs.lemmas.List.{take-append-drop, get_or-take, get_or-drop, get_or-map, length-map, length-take-le}
use Rattle.std.proofs.lemmas.List.Elements.{filter-append, recursion_from_All}
use Rattle.std.proofs.lemmas.List.Kept.{IsStrictlySortedBy-dedup, Contains-dedup, Contains-from_dedup}
use Rattle.std.proofs.lemmas.List.Sorted.{Contains-permutation, IsPermutation-sym}
use Rattle.std.proofs.lemmas.Map.Keys.{Less-from_sorted}
use Rattle.semantics.specs.Texts.{Text, Range, text_cmp, same, within}
use Rattle.semantics.proofs.PieceLemmas.{equal_by_same}
use Rattle.semantics.proofs.TableLemmas.{text_total, same_is_tie}
use Rattle.growing_history.proofs.ElementLemmas.{all_then}
use Rattle.growing_history.specs.StateChanges.{Change}
use Rattle.join_eval.specs.Answers.{change_keys}
use Rattle.key_ranges.specs.Ranges.{is_below}
use Rattle.key_ranges.proofs.OrderLemmas.{up_to-not_below, up_to_from_below, up_to_below}

-- ---- filters

-- nothing passes a test that no element passes
filter_none : {A : Type 0} (test : A → Bool) (xs : List A) → AllByRecursion (λ x. test x ≡ false) xs → filter test xs ≡ []
filter_none test [] h = refl
filter_none test (x ∷ xs) h = ap (λ b. cond b (x ∷ filter test xs) (filter test xs)) h.0 ∙ filter_none test xs h.1

-- all pass a test that each element passes
filter_whole : {A : Type 0} (test : A → Bool) (xs : List A) → AllByRecursion (λ x. test x ≡ true) xs → filter test xs ≡ xs
filter_whole test [] h = refl
filter_whole test (x ∷ xs) h = ap (λ b. cond b (x ∷ filter test xs) (filter test xs)) h.0 ∙ ap (λ ys. x ∷ ys) (filter_whole test xs h.1)

-- what holds at the first places holds of the first elements
front_of : {A : Type 0} (P : A → Type 0) (xs : List A) (i : ℕ) → i ≤ length xs → AllWithin P xs 0 i → AllByRecursion P (take i xs)
front_of P xs i short h = recursion_from_All P (take i xs) (λ k d less.
    let lt : k < i = omega (arith, less, length-take-le i xs short) in
    subst P (sym (get_or-take i xs k d lt)) (h k d (omega arith) lt))

-- and what holds at the places from one on, of the elements that are left
back_of : {A : Type 0} (P : A → Type 0) (xs : List A) (i : ℕ) → AllWithin P xs i (length xs) → AllByRecursion P (drop i xs)
back_of P xs i h = recursion_from_All P (drop i xs) (λ k d less.
    let lt : i + k < length xs = omega (arith, less, length-drop i xs) in
    subst P (sym (get_or-drop i xs k d)) (h (i + k) d (omega arith) lt))

-- where the first elements pass and the others do not, the first ones are what passes
filter_front : {A : Type 0} (test : A → Bool) (xs : List A) (i : ℕ) → AllByRecursion (λ x. test x ≡ true) (take i xs) → AllByRecursion (λ x. test x ≡ false) (drop i xs) → filter test xs ≡ take i xs
filter_front test xs i first others =
    ap (filter test) (sym (take-append-drop i xs)) ∙ filter-append test (take i xs) (drop i xs)
    ∙ ap (λ ys. filter test (take i xs) ++ ys) (filter_none test (drop i xs) others) ∙ append-nil (filter test (take i xs)) ∙ filter_whole test (take i xs) first

-- where the first elements do not pass, what passes is among the others
filter_back : {A : Type 0} (test : A → Bool) (xs : List A) (i : ℕ) → AllByRecursion (λ x. test x ≡ false) (take i xs) → filter test xs ≡ filter test (drop i xs)
filter_back test xs i first =
    ap (filter test) (sym (take-append-drop i xs)) ∙ filter-append test (take i xs) (drop i xs)
    ∙ ap (λ ys. ys ++ filter test (drop i xs)) (filter_none test (take i xs) first)

-- two tests that agree at each element keep the same elements
filter_same : {A : Type 0} (p q : A → Bool) (xs : List A) → AllByRecursion (λ x. p x ≡ q x) xs → filter p xs ≡ filter q xs
filter_same p q [] h = refl
filter_same p q (x ∷ xs) h = ap (λ b. cond b (x ∷ filter p xs) (filter p xs)) h.0 ∙ ap (λ ys. cond (q x) (x ∷ ys) ys) (filter_same p q xs h.1)

-- ---- changes whose keys ascend

-- a key before another is less
less_at : (changes : List Change) (i j : ℕ) (d : Change) → IsStrictlySortedBy text_cmp (change_keys changes) → i < j → j < length changes → text_cmp (get_or changes i d).key (get_or changes j d).key ≡ Less
less_at changes i j d sorted before less =
    let key = λ (c : Change). c.key in
    let long : j < length (change_keys changes) = omega (arith, less, length-map changes key) in
    let one : get_or (change_keys changes) i d.key ≡ (get_or changes i d).key = get_or-map key changes i d d.key (omega (arith, before, less)) in
    let other : get_or (change_keys changes) j d.key ≡ (get_or changes j d).key = get_or-map key changes j d d.key less in
    sym (λ t. text_cmp (one t) (other t)) ∙ Less-from_sorted text_cmp (change_keys changes) i j d.key sorted before long

-- the keys below a bound come first
pub parted_below : (bound : Text) (changes : List Change) → IsStrictlySortedBy text_cmp (change_keys changes) → IsPartitionedBy (λ change. is_below change.key bound) changes
parted_below bound changes sorted i j d up less h =
    let one : Text = (get_or changes i d).key in
    let other : Text = (get_or changes j d).key in
    ⊎_elim
    (λ (before : i < j). up_to_below one other bound (up_to_from_below one other (ap is_lt (less_at changes i j d sorted before less))) h)
    (λ (behind : j ≤ i). let e : j ≡ i = omega arith in subst (λ k. is_below (get_or changes k d).key bound ≡ true) e h)
    (cases_lt i j)

-- a key that is below the first bound lies outside
below_outside : (range : Range) (key : Text) → is_below key range.low ≡ true → within range key ≡ false
below_outside range key h = ap (λ b. b && is_below key range.high) (up_to-not_below range.low key ∙ ap not h)

-- one that is not lies in the range where it is below the last bound
reached_within : (range : Range) (key : Text) → is_below key range.low ≡ false → within range key ≡ is_below key range.high
reached_within range key h = ap (λ b. b && is_below key range.high) (up_to-not_below range.low key ∙ ap not h)

-- the changes whose keys lie in a range are those whose keys are not below its first bound, up to where they are below its last one
pub changes_between : (range : Range) (changes : List Change) (i n : ℕ) → i ≤ length changes → n ≤ length (drop i changes) → IsPartitionPoint (λ change. is_below change.key range.low ≡ true) (λ change. is_below change.key range.low ≡ false) changes i →
    IsPartitionPoint (λ change. is_below change.key range.high ≡ true) (λ change. is_below change.key range.high ≡ false) (drop i changes) n → take n (drop i changes) ≡ filter (λ change. within range change.key) changes
changes_between range changes i n short fewer low high =
    let inside_range = λ (c : Change). within range c.key in
    let up_to_last = λ (c : Change). is_below c.key range.high in
    let outside = all_then (λ (c : Change). is_below c.key range.low ≡ true) (λ c. within range c.key ≡ false) (take i changes) (λ c. below_outside range c.key) (front_of (λ c. is_below c.key range.low ≡ true) changes i short low.0) in
    let reached = all_then (λ (c : Change). is_below c.key range.low ≡ false) (λ c. within range c.key ≡ is_below c.key range.high) (drop i changes) (λ c. reached_within range c.key) (back_of (λ c. is_below c.key range.low ≡ false) changes i low.1) in
    let inside = front_of (λ (c : Change). is_below c.key range.high ≡ true) (drop i changes) n fewer high.0 in
    let behind = back_of (λ (c : Change). is_below c.key range.high ≡ false) (drop i changes) n high.1 in
    sym (filter_back inside_range changes i outside
    ∙ filter_same inside_range up_to_last (drop i changes) reached
    ∙ filter_front up_to_last (drop i changes) n inside behind)

-- the keys of the rest of them ascend
pub sorted_drop : (i : ℕ) (changes : List Change) → IsStrictlySortedBy text_cmp (change_keys changes) → IsStrictlySortedBy text_cmp (change_keys (drop i changes))
unfolding IsStrictlySortedBy
sorted_drop zero changes h = h
sorted_drop (suc i) [] h = tt
sorted_drop (suc i) (change ∷ changes) h = sorted_drop i changes h.1

within_by : (b : Bool) (c : Change) (cs : List Change) (ks : List Text) → change_keys cs ≡ ks → change_keys (cond b (c ∷ cs) cs) ≡ cond b (c.key ∷ ks) ks
within_by true c cs ks is = ap (λ rest. c.key ∷ rest) is
within_by false c cs ks is = is

-- the keys of those whose keys lie in a range are the keys that lie in it
pub keys_within : (range : Range) (changes : List Change) → change_keys (filter (λ change. within range change.key) changes) ≡ filter (within range) (change_keys changes)
keys_within range [] = refl
keys_within range (c ∷ cs) = within_by (within range c.key) c (filter (λ change. within range change.key) cs) (filter (within range) (change_keys cs)) (keys_within range cs)

-- ---- keys put in order

-- sorted keys, each kept once, ascend
pub merged_ascend : (keys : List Text) → IsSorted text_cmp keys → IsStrictlySortedBy text_cmp (dedup same keys)
merged_ascend keys sorted = IsStrictlySortedBy-dedup text_total same_is_tie keys sorted

-- and they are the same keys
pub merged_same : (given sorted : List Text) (key : Text) → IsEquivalence same → IsPermutation given sorted → Contains (dedup same sorted) key ↔ Contains given key
merged_same given sorted key equal moved = (
  λ h. Contains-permutation sorted given key (IsPermutation-sym given sorted moved) (Contains-from_dedup same sorted key h),
  λ h. Contains-dedup equal equal_by_same sorted key (Contains-permutation given sorted key moved h),
)
