-- The ranges of each id, one more or one less.
use Rattle.std.proofs.Common.{◌≡◌, ◌≢◌, ℕ, zero, suc, ◌+◌, ◌-◌, ◌<◌, ◌≤◌, Bool, true, false, cond, not, ◌&&◌, ◌||◌, ◌==◌, ◌⊎◌, inl, inr, List, [], ◌∷◌, ◌++◌, length, take, set, get_or, replicate, refl, sym, ap, ◌∙◌, subst, arith, Less, Equal, Greater, append-nil, append_assoc, Result, Ok, Err}
use Rattle.std.specs.Cmp.{nat_cmp_total, unsigned_tied}
use Rattle.std.specs.Cmp.Lexicographic.{nat_list_eq_equiv}
use Rattle.std.specs.List.{list_any, AllByRecursion}
use Rattle.std.specs.List.Sorted.{IsStrictlySortedBy}
use Rattle.std.specs.Ordering.{nat_cmp}
use Rattle.std.specs.BTreeMap.{is_at}
use Rattle.std.specs.Result.{OnErr}
use Rattle.std.specs.BTreeSet.{BTreeSet, contains}
use Rattle.std.proofs.lemmas.Bool.{and_parts, and_from, or_left, or_right, or_cases, eqb-true, eq-eqb, false≢true, lt-ltb}
use Rattle.std.proofs.lemmas.Bool.Decides.{eqb_tells}
use Rattle.std.proofs.lemmas.List.{get_or-set_same, get_or-set_other, set-get_or, length-set, take_more, take-append-le, length-take-le, length-append}
use Rattle.std.proofs.Math.Seq.{take-length}
use Rattle.std.proofs.lemmas.List.Sums.{fold_push}
use Rattle.std.proofs.lemmas.List.Folds.{list_any-append}
use Rattle.std.proofs.lemmas.Map.Lookups.{btree_set_from_contains, exact_unsigned}
use Rattle.semantics.specs.Texts.{Text, same, Range, within}
use Rattle.semantics.proofs.MemberLemmas.{Has, has_from_any, any_from_has}
use Rattle.semantics.proofs.PieceLemmas.{equal_by_same, same_itself}
use Rattle.updater_index.specs.Registered.{Held, ranges_of, same_range, has_range, with_range, with_ranges, holds_key, stabbed_from, stabbed, has_id}
use Rattle.updater_index.specs.Spans.{is_same, FindsHolders, AllFound}
use Rattle.updater_index.specs.Sides.{Sides, is_registered, AddsRange, RemovesRange, KeepsRanges}
use Rattle.updater_index.specs.Indexed.{are_apart, AreIndexed, Grows}
use Rattle.updater_index.proofs.SpanLemmas.{same_has, back_out}
use Rattle.updater_index.proofs.SideLemmas.{registered-adds, registered-removes, registered-keeps}

-- ---- ranges that are the same

range_sym : (r s : Range) → same_range r s ≡ same_range s r
range_sym r s = λ i. nat_list_eq_equiv.symm r.low s.low i && nat_list_eq_equiv.symm r.high s.high i

pub range_equal : (r s : Range) → same_range r s ≡ true → r ≡ s
range_equal r s e =
    let ends = and_parts (same r.low s.low) (same r.high s.high) e in
    let low = equal_by_same r.low s.low ends.0 in
    let high = equal_by_same r.high s.high ends.1 in
    (λ i. record { low = low i; high = high i })

range_itself : (r : Range) → same_range r r ≡ true
range_itself r = and_from (same r.low r.low) (same r.high r.high) (same_itself r.low) (same_itself r.high)

or_last : (a b : Bool) → (a || (b || false)) ≡ (b || a)
or_last true true = refl
or_last true false = refl
or_last false true = refl
or_last false false = refl

-- one range more at the end
has_more : (rs : List Range) (r s : Range) → has_range (rs ++ r ∷ []) s ≡ (same_range s r || has_range rs s)
has_more rs r s = list_any-append (same_range s) rs (r ∷ []) ∙ or_last (has_range rs s) (same_range s r)

or_false_parts : (a b : Bool) → (a || b) ≡ false → (a ≡ false) × (b ≡ false)
or_false_parts true b h = absurd (false≢true (sym h))
or_false_parts false b h = (refl, h)

not_from : (a : Bool) → not a ≡ true → a ≡ false
not_from true h = sym h
not_from false h = refl

from_not : (a : Bool) → a ≡ false → not a ≡ true
from_not true h = absurd (false≢true (sym h))
from_not false h = refl

or_both_false : (a b : Bool) → a ≡ false → b ≡ false → (a || b) ≡ false
or_both_false true b h g = h
or_both_false false b h g = g

-- ---- ranges each once

apart_push : (rs : List Range) (r : Range) → are_apart rs ≡ true → has_range rs r ≡ false → are_apart (rs ++ r ∷ []) ≡ true
apart_push [] r a h = refl
apart_push (x ∷ xs) r a h =
    let parts = and_parts (not (has_range xs x)) (are_apart xs) a in
    let none = or_false_parts (same_range r x) (has_range xs r) h in
    and_from (not (has_range (xs ++ r ∷ []) x)) (are_apart (xs ++ r ∷ []))
    (from_not (has_range (xs ++ r ∷ []) x) (has_more xs r x ∙ or_both_false (same_range x r) (has_range xs x) (range_sym x r ∙ none.0) (not_from (has_range xs x) parts.0)))
    (apart_push xs r parts.1 none.1)

apart_pop : (rs : List Range) (r : Range) → are_apart (rs ++ r ∷ []) ≡ true → (are_apart rs ≡ true) × (has_range rs r ≡ false)
apart_pop [] r a = (refl, refl)
apart_pop (x ∷ xs) r a =
    let parts = and_parts (not (has_range (xs ++ r ∷ []) x)) (are_apart (xs ++ r ∷ [])) a in
    let more = apart_pop xs r parts.1 in
    let none = or_false_parts (same_range x r) (has_range xs x) (sym (has_more xs r x) ∙ not_from (has_range (xs ++ r ∷ []) x) parts.0) in (
      and_from (not (has_range xs x)) (are_apart xs) (from_not (has_range xs x) none.1) more.0,
      or_both_false (same_range r x) (has_range xs r) (range_sym r x ∙ none.0) more.1,
    )

-- ---- the ranges of one id

-- of a set id, and of every other
by_id : (held : Held) (id : ℕ) (rs : List Range) (P : ℕ → List Range → Type 0) → id < length held → P id rs → ((q : ℕ) → (id == q) ≡ false → P q (ranges_of q held)) → (q : ℕ) → P q (ranges_of q (set held id rs))
by_id held id rs P h here others q = elim (eqb_tells id q) [
  | inl same ↦ subst (λ x. P x (ranges_of x (set held id rs))) same.1 (subst (P id) (sym (get_or-set_same held id rs [] h)) here)
  | inr other ↦ subst (P q) (sym (get_or-set_other held id q rs [] (λ e. other.1 (sym e)))) (others q other.0)
]

same_number : (r s : Range) (id : ℕ) → is_same r id s id ≡ same_range r s
same_number r s id = ap (λ b. same_range r s && b) (eq-eqb id id refl) ∙ and_true (same_range r s)
  where
    and_true : (b : Bool) → (b && true) ≡ b
    and_true true = refl
    and_true false = refl

other_number : (r s : Range) (id q : ℕ) → (id == q) ≡ false → is_same r id s q ≡ false
other_number r s id q e = ap (λ b. same_range r s && b) e ∙ and_false (same_range r s)
  where
    and_false : (b : Bool) → (b && false) ≡ false
    and_false true = refl
    and_false false = refl

-- a range more
pub indexed-adds : (held : Held) (id : ℕ) (r : Range) (sides more : Sides) → id < length held → has_range (ranges_of id held) r ≡ false → AddsRange r id sides more → AreIndexed held sides →
    AreIndexed (set held id (ranges_of id held ++ r ∷ [])) more
indexed-adds held id r sides more h none adds x =
    let rs = ranges_of id held in
    record {
      agrees = λ s. by_id held id (rs ++ r ∷ []) (λ q qs. is_registered more s q ≡ has_range qs s) h
          (registered-adds r id sides more adds s id ∙ ap (λ t. t || is_registered sides s id) (same_number r s id ∙ range_sym r s) ∙ ap (λ t. same_range s r || t) (x.agrees s id) ∙ sym (has_more rs r s))
          (λ q e. registered-adds r id sides more adds s q ∙ ap (λ t. t || is_registered sides s q) (other_number r s id q e) ∙ x.agrees s q);
      apart = by_id held id (rs ++ r ∷ []) (λ q qs. are_apart qs ≡ true) h (apart_push rs r (x.apart id) none) (λ q e. x.apart q);
    }

-- a range that was there once is not there any more
taken_out : (front : List Range) (r s : Range) → has_range front r ≡ false → (not (same_range r s) && (same_range s r || has_range front s)) ≡ has_range front s
taken_out front r s none = (elim (same_range r s) as (λ t. same_range r s ≡ t → (not t && (same_range s r || has_range front s)) ≡ has_range front s) [
  | true ↦ λ e. sym (ap (has_range front) (sym (range_equal r s e)) ∙ none)
  | false ↦ λ e. ap (λ t. t || has_range front s) (range_sym s r ∙ e)
]) refl

-- a range less, the last of the id
pub indexed-removes : (held : Held) (id : ℕ) (front : List Range) (r : Range) (sides fewer : Sides) → id < length held → ranges_of id held ≡ front ++ r ∷ [] → RemovesRange r id sides fewer → AreIndexed held sides →
    AreIndexed (set held id front) fewer
indexed-removes held id front r sides fewer h is removes x =
    let once = apart_pop front r (ap are_apart (sym is) ∙ x.apart id) in
    record {
      agrees = λ s. by_id held id front (λ q qs. is_registered fewer s q ≡ has_range qs s) h
          (registered-removes r id sides fewer removes s id ∙ ap (λ t. not t && is_registered sides s id) (same_number r s id)
          ∙ ap (λ t. not (same_range r s) && t) (x.agrees s id ∙ ap (λ rs. has_range rs s) is ∙ has_more front r s) ∙ taken_out front r s once.1)
          (λ q e. registered-removes r id sides fewer removes s q ∙ ap (λ t. not t && is_registered sides s q) (other_number r s id q e) ∙ x.agrees s q);
      apart = by_id held id front (λ q qs. are_apart qs ≡ true) h once.0 (λ q e. x.apart q);
    }

-- the same ranges
pub indexed-keeps : (held : Held) (sides other : Sides) → KeepsRanges sides other → AreIndexed held sides → AreIndexed held other
indexed-keeps held sides other k x = record { agrees = λ r id. registered-keeps sides other k r id ∙ x.agrees r id; apart = x.apart }

-- a range that is registered already
pub with_there : (rs : List Range) (r : Range) → has_range rs r ≡ true → with_range rs r ≡ rs
with_there rs r h = ap (λ b. cond b rs (rs ++ r ∷ [])) h

pub with_new : (rs : List Range) (r : Range) → has_range rs r ≡ false → with_range rs r ≡ rs ++ r ∷ []
with_new rs r h = ap (λ b. cond b rs (rs ++ r ∷ [])) h

-- no ranges
pub indexed-none : (n : ℕ) → AreIndexed (replicate n []) []
indexed-none n = record { agrees = λ r id. sym (ap (λ rs. has_range rs r) (nothing n id)); apart = λ id. ap are_apart (nothing n id) }
  where
    nothing : (n id : ℕ) → ranges_of id (replicate n []) ≡ []
    nothing zero id = refl
    nothing (suc n) zero = refl
    nothing (suc n) (suc id) = nothing n id

-- ---- the ids with a range that contains a key

by_list : (b : Bool) (n : ℕ) (ids : List ℕ) (id : ℕ) → has_id (cond b (n ∷ ids) ids) id ≡ ((b && (id == n)) || has_id ids id)
by_list true n ids id = refl
by_list false n ids id = refl

not_before : (n : ℕ) (key : Text) (held : Held) (id : ℕ) → id < n → has_id (stabbed_from n key held) id ≡ false
not_before n key [] id h = refl
not_before n key (rs ∷ more) id h =
    by_list (holds_key key rs) n (stabbed_from (n + 1) key more) id
    ∙ or_both_false (holds_key key rs && (id == n)) (has_id (stabbed_from (n + 1) key more) id)
    (ap (λ b. holds_key key rs && b) (other_by id n (let k : id ≢ n = omega arith in k)) ∙ and_false (holds_key key rs)) (not_before (n + 1) key more id (omega arith))
  where
    and_false : (b : Bool) → (b && false) ≡ false
    and_false true = refl
    and_false false = refl

    other_by : (a b : ℕ) → a ≢ b → (a == b) ≡ false
    other_by a b ne = elim (eqb_tells a b) [ inl same ↦ absurd (ne same.1) | inr other ↦ other.0 ]

-- an id is listed exactly where its ranges contain the key
listed_from : (n : ℕ) (key : Text) (held : Held) (id : ℕ) → has_id (stabbed_from n key held) (n + id) ≡ holds_key key (get_or held id [])
listed_from n key [] id = refl
listed_from n key (rs ∷ more) zero =
    by_list (holds_key key rs) n (stabbed_from (n + 1) key more) (n + 0)
    ∙ (λ i. (holds_key key rs && here i) || none i) ∙ and_or (holds_key key rs)
  where
    here : (n + 0 == n) ≡ true
    here = eq-eqb (n + 0) n (omega arith)

    none : has_id (stabbed_from (n + 1) key more) (n + 0) ≡ false
    none = not_before (n + 1) key more (n + 0) (omega arith)

    and_or : (b : Bool) → ((b && true) || false) ≡ b
    and_or true = refl
    and_or false = refl
listed_from n key (rs ∷ more) (suc id) =
    by_list (holds_key key rs) n (stabbed_from (n + 1) key more) (n + suc id)
    ∙ (λ i. (holds_key key rs && other i) || has_id (stabbed_from (n + 1) key more) (place i)) ∙ or_none (holds_key key rs) (has_id (stabbed_from (n + 1) key more) (n + 1 + id)) ∙ listed_from (n + 1) key more id
  where
    other : (n + suc id == n) ≡ false
    other = elim (eqb_tells (n + suc id) n) [ inl same ↦ absurd (let e : n + suc id ≡ n = same.1 in let k : ⊥ = omega arith in k) | inr differ ↦ differ.0 ]

    place : n + suc id ≡ n + 1 + id
    place = omega arith

    or_none : (b c : Bool) → ((b && false) || c) ≡ c
    or_none true c = refl
    or_none false c = refl

contains_is : (ids : List ℕ) (id : ℕ) → list_any (is_at (nat_cmp id)) ids ≡ has_id ids id
contains_is [] id = refl
contains_is (x ∷ xs) id = λ i. unsigned_tied id x i || contains_is xs id i

less_from : (n m : ℕ) → n < m → nat_cmp n m ≡ Less
less_from n m h = ap (λ b. cond b Less (cond (n == m) Equal Greater)) (lt-ltb n m h)

above_by : (low n : ℕ) (b : Bool) (ids : List ℕ) → low < n → AllByRecursion (λ y. nat_cmp low y ≡ Less) ids → AllByRecursion (λ y. nat_cmp low y ≡ Less) (cond b (n ∷ ids) ids)
above_by low n true ids h a = (less_from low n h, a)
above_by low n false ids h a = a

above_from : (low n : ℕ) (key : Text) (held : Held) → low < n → AllByRecursion (λ y. nat_cmp low y ≡ Less) (stabbed_from n key held)
above_from low n key [] h = tt
above_from low n key (rs ∷ more) h = above_by low n (holds_key key rs) (stabbed_from (n + 1) key more) h (above_from low (n + 1) key more (omega arith))

sorted_by : (n : ℕ) (b : Bool) (ids : List ℕ) → AllByRecursion (λ y. nat_cmp n y ≡ Less) ids → IsStrictlySortedBy nat_cmp ids → IsStrictlySortedBy nat_cmp (cond b (n ∷ ids) ids)
unfolding IsStrictlySortedBy
sorted_by n true ids a s = (a, s)
sorted_by n false ids a s = s

-- they ascend
sorted_from : (n : ℕ) (key : Text) (held : Held) → IsStrictlySortedBy nat_cmp (stabbed_from n key held)
unfolding IsStrictlySortedBy
sorted_from n key [] = tt
sorted_from n key (rs ∷ more) = sorted_by n (holds_key key rs) (stabbed_from (n + 1) key more) (above_from n (n + 1) key more (omega arith)) (sorted_from (n + 1) key more)

bool_same : (a b : Bool) → (a ≡ true → b ≡ true) → (b ≡ true → a ≡ true) → a ≡ b
bool_same true b f g = sym (f refl)
bool_same false true f g = g refl
bool_same false false f g = refl

-- a set of the ids that were found is the list of those that contain the key
pub found_is_stabbed : (held : Held) (sides : Sides) (key : Text) (none found : BTreeSet ℕ) → AreIndexed held sides → none.keys ≡ [] → IsStrictlySortedBy nat_cmp found.keys →
    FindsHolders (is_registered sides) key none found → AllFound (is_registered sides) key found → found.keys ≡ stabbed key held
found_is_stabbed held sides key none found x empty sorted finds all =
    btree_set_from_contains nat_cmp_total found (record { keys = stabbed key held }) sorted (sorted_from 0 key held) (λ id.
    bool_same (contains nat_cmp found id) (holds_key key (ranges_of id held)) (is_there id) (is_found id) ∙ sym (listed_from 0 key held id) ∙ ap (has_id (stabbed key held)) (let z : 0 + id ≡ id = omega arith in z) ∙ sym (contains_is (stabbed key held) id)) exact_unsigned
  where
    is_there : (id : ℕ) → contains nat_cmp found id ≡ true → holds_key key (ranges_of id held) ≡ true
    is_there id h = elim (finds.sound id h) [
      | inl before ↦ absurd (false≢true (sym (ap (list_any (is_at (nat_cmp id))) empty) ∙ before))
      | inr one ↦
          let there = has_from_any (same_range one.0) (ranges_of id held) (sym (x.agrees one.0 id) ∙ one.1) in
          any_from_has (λ r. within r key) (ranges_of id held) there.0 there.1 (ap (λ r. within r key) (sym (range_equal one.0 there.0 there.2)) ∙ one.2)
    ]

    is_found : (id : ℕ) → holds_key key (ranges_of id held) ≡ true → contains nat_cmp found id ≡ true
    is_found id h =
        let there = has_from_any (λ r. within r key) (ranges_of id held) h in
        all there.0 id (x.agrees there.0 id ∙ any_from_has (same_range there.0) (ranges_of id held) there.0 there.1 (range_itself there.0)) there.2

-- ---- an element, whatever stands past the end

pub any_default : {X : Type 0} (xs : List X) (i : ℕ) (d e : X) → i < length xs → get_or xs i d ≡ get_or xs i e
any_default [] i d e h = absurd (omega arith)
any_default (x ∷ xs) zero d e h = refl
any_default (x ∷ xs) (suc i) d e h = any_default xs i d e (omega arith)

-- ---- a range that was registered before, and one that is taken out again

absorbed : (P : Range → ℕ → Bool) (b : Range) (id : ℕ) → P b id ≡ true → (r : Range) (q : ℕ) → (is_same b id r q || P r q) ≡ P r q
absorbed P b id h r q = (elim (is_same b id r q) as (λ t. is_same b id r q ≡ t → (t || P r q) ≡ P r q) [
  | true ↦ λ e. sym (same_has P b id r q e ∙ h)
  | false ↦ λ e. refl
]) refl

pub indexed-same : (held : Held) (id : ℕ) (r : Range) (sides more : Sides) → is_registered sides r id ≡ true → AddsRange r id sides more → AreIndexed held sides → AreIndexed held more
indexed-same held id r sides more h adds x = record {
  agrees = λ s q. registered-adds r id sides more adds s q ∙ absorbed (is_registered sides) r id h s q ∙ x.agrees s q;
  apart = x.apart;
}

pub indexed-undone : (held : Held) (id : ℕ) (r : Range) (sides more fewer : Sides) → is_registered sides r id ≡ false → AddsRange r id sides more → RemovesRange r id more fewer → AreIndexed held sides → AreIndexed held fewer
indexed-undone held id r sides more fewer h adds removes x = record {
  agrees = λ s q. registered-removes r id more fewer removes s q ∙ ap (λ t. not (is_same r id s q) && t) (registered-adds r id sides more adds s q) ∙ back_out (is_registered sides) r id h s q ∙ x.agrees s q;
  apart = x.apart;
}

pub not_added : (b : Bool) → false ≡ not b → b ≡ true
not_added true e = refl
not_added false e = e

pub was_added : (b : Bool) → true ≡ not b → b ≡ false
was_added true e = e
was_added false e = refl

-- ---- several ranges of one id

pub set_set : {X : Type 0} (xs : List X) (i : ℕ) (a b : X) → set (set xs i a) i b ≡ set xs i b
set_set [] i a b = refl
set_set (x ∷ xs) zero a b = refl
set_set (x ∷ xs) (suc i) a b = ap (λ ys. x ∷ ys) (set_set xs i a b)

-- one range more of those that are added
pub add_more : (old now new : Held) (id : ℕ) (ranges : List Range) (i : ℕ) (r : Range) → id < length old → i < length ranges → r ≡ get_or ranges i r → now ≡ set old id (with_ranges (ranges_of id old) (take i ranges)) →
    new ≡ set now id (with_range (ranges_of id now) r) → new ≡ set old id (with_ranges (ranges_of id old) (take (i + 1) ranges))
add_more old now new id ranges i r h j at e f =
    let rs = with_ranges (ranges_of id old) (take i ranges) in
    let own : ranges_of id now ≡ rs = ap (ranges_of id) e ∙ get_or-set_same old id rs [] h in
    f ∙ (λ k. set (e k) id (with_range (own k) r)) ∙ set_set old id rs (with_range rs r)
    ∙ ap (set old id) (sym (ap (with_ranges (ranges_of id old)) (take_more ranges i r j ∙ ap (λ x. take i ranges ++ x ∷ []) (sym at)) ∙ fold_push with_range (ranges_of id old) (take i ranges) r))

begins_by : (b : Bool) (rs : List Range) (x : Range) → (more : List Range) × (cond b rs (rs ++ x ∷ []) ≡ rs ++ more)
begins_by true rs x = ([], sym (append-nil rs))
begins_by false rs x = (x ∷ [], refl)

-- what is added comes behind
begins : (rs xs : List Range) → (more : List Range) × (with_ranges rs xs ≡ rs ++ more)
begins rs [] = ([], sym (append-nil rs))
begins rs (x ∷ xs) =
    let one = begins_by (has_range rs x) rs x in
    let rest = begins (with_range rs x) xs in
    (one.0 ++ rest.0, rest.1 ∙ ap (λ ys. ys ++ rest.0) one.1 ∙ append_assoc rs one.0 rest.0)

pub grows-with : (old new : Held) (id : ℕ) (xs : List Range) → id < length old → new ≡ set old id (with_ranges (ranges_of id old) xs) → Grows id old new
grows-with old new id xs h e =
    let rs = ranges_of id old in
    let more = begins rs xs in
    let own : ranges_of id new ≡ with_ranges rs xs = ap (ranges_of id) e ∙ get_or-set_same old id (with_ranges rs xs) [] h in
    record {
      others = e ∙ ap (set old id) (sym own);
      first = ap (take (length rs)) (own ∙ more.1) ∙ take-append-le (length rs) rs more.0 (omega arith) ∙ take-length rs;
      longer = let size : length (ranges_of id new) ≡ length rs + length more.0 = ap length (own ∙ more.1) ∙ length-append rs more.0 in omega arith;
    }

-- back to what was
pub grown_back : (old now new : Held) (id n : ℕ) → Grows id old now → n ≡ length (ranges_of id old) → new ≡ set now id (take n (ranges_of id now)) → new ≡ old
grown_back old now new id n g e f =
    f ∙ ap (λ m. set now id (take m (ranges_of id now))) e ∙ (λ k. set (g.others k) id (g.first k)) ∙ set_set old id (ranges_of id now) (ranges_of id old) ∙ set-get_or old id []

take_one_less : {X : Type 0} (n : ℕ) (xs : List X) → take n (take (suc n) xs) ≡ take n xs
take_one_less zero xs = refl
take_one_less (suc n) [] = refl
take_one_less (suc n) (x ∷ xs) = ap (λ ys. x ∷ ys) (take_one_less n xs)

take_fewer : {X : Type 0} (n : ℕ) (xs : List X) → take (n - 1) (take n xs) ≡ take (n - 1) xs
take_fewer zero xs = refl
take_fewer (suc n) xs =
    let one_less : suc n - 1 ≡ n = omega arith in
    ap (λ m. take m (take (suc n) xs)) one_less ∙ take_one_less n xs ∙ ap (λ m. take m xs) (sym one_less)

-- one range less of those that are left
pub one_fewer : (old now new : Held) (id n : ℕ) → id < length old → n ≤ length (ranges_of id old) → now ≡ set old id (take n (ranges_of id old)) → new ≡ set now id (take (length (ranges_of id now) - 1) (ranges_of id now)) →
    new ≡ set old id (take (n - 1) (ranges_of id old))
one_fewer old now new id n h le e f =
    let rs = ranges_of id old in
    let own : ranges_of id now ≡ take n rs = ap (ranges_of id) e ∙ get_or-set_same old id (take n rs) [] h in
    f ∙ (λ k. set (e k) id (take (length (own k) - 1) (own k))) ∙ set_set old id (take n rs) (take (length (take n rs) - 1) (take n rs))
    ∙ ap (λ m. set old id (take (m - 1) (take n rs))) (length-take-le n rs le) ∙ ap (set old id) (take_fewer n rs)

-- ---- ids that are listed are below the number

below_by : (b : Bool) (n bound : ℕ) (ids : List ℕ) (k : ℕ) → n < bound → ((j : ℕ) → j < length ids → get_or ids j 0 < bound) → k < length (cond b (n ∷ ids) ids) → get_or (cond b (n ∷ ids) ids) k 0 < bound
below_by true n bound ids zero h all k = h
below_by true n bound ids (suc j) h all k = all j (omega arith)
below_by false n bound ids j h all k = all j k

below_from : (n : ℕ) (key : Text) (held : Held) (k : ℕ) → k < length (stabbed_from n key held) → get_or (stabbed_from n key held) k 0 < n + length held
below_from n key [] k h = absurd (omega arith)
below_from n key (rs ∷ more) k h =
    below_by (holds_key key rs) n (n + length (rs ∷ more)) (stabbed_from (n + 1) key more) k (omega arith) (λ j i. let b = below_from (n + 1) key more j i in omega arith) h

pub stabbed_below : (key : Text) (held : Held) (k : ℕ) → k < length (stabbed key held) → get_or (stabbed key held) k 0 < length held
stabbed_below key held k h = let b = below_from 0 key held k h in omega arith

pub on_err_always : {X E P : Type 0} (r : Result X E) → P → OnErr r P
on_err_always (Ok x) p = tt
on_err_always (Err e) p = p
