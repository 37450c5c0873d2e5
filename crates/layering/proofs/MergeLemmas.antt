-- Merges: what they have at each key, how many pairs, and that their order does not matter.
use Rattle.std.proofs.Common.{◌≡◌, ◌⊎◌, ◌+◌, Bool, true, false, cond, T, List, [], ◌∷◌, length, fold, Option, Some, None, is_some, refl, sym, ap, ◌∙◌, inl, inr, arith, IsPermutation}
use Rattle.std.specs.List.{AllByRecursion, list_any}
use Rattle.std.specs.Option.{option_or}
use Rattle.std.specs.FinMap.Entries.{length-put}
use Rattle.std.proofs.lemmas.Bool.{cases_Bool, false≢true, true≢false, cond-false, false_from_ne_true}
use Rattle.std.proofs.lemmas.Option.{none-some}
use Rattle.std.proofs.lemmas.List.Sorted.{IsPermutation-sym, Contains-permutation}
use Rattle.semantics.specs.Texts.{Text, text_cmp, same, Table, within, value_at, with_pair, pairs_within}
use Rattle.semantics.specs.States.{merged}
use Rattle.semantics.proofs.PieceLemmas.{same_itself}
use Rattle.semantics.proofs.Members.{IsIn, AllByRecursion-at, IsIn-from_list_any, list_any-from_IsIn, IsIn-from_Contains, Contains-from_IsIn}
use Rattle.semantics.proofs.TableLemmas.{IsAscending, text_total, value_at_here, value_at_later, value_at-with_pair, ascending-with_pair, same_tables}
use Rattle.semantics.proofs.MergedLemmas.{ascending-pairs_within, value_at-pairs_within, ascending-tail, value_at-first_again, ascending-merged, value_at-merged}
use Rattle.layering.specs.Merging.{ShareNoKey, Agree}
use Rattle.layering.specs.MergeLaws.{MergedIntoNothing, MergedAscends, MergedWithin, MergedEitherWay, MergedLength, MergedInAnyOrder}
use Rattle.layering.proofs.ListLemmas.{something, nothing_from, none_from_test}

-- ---- what a merge has

pub or_nothing : (o : Option Text) → option_or o None ≡ o
or_nothing None = refl
or_nothing (Some v) = refl

-- a merge into nothing is what is merged
pub merged_into_nothing : MergedIntoNothing
merged_into_nothing table h =
    same_tables (merged [] table) table (ascending-merged [] table refl) h (λ q. value_at-merged q [] table h ∙ or_nothing (value_at q table))

-- what is merged ascends
pub merged_ascends : MergedAscends
merged_ascends table other h = ascending-merged table other h

within_or : (b : Bool) (o p : Option Text) → cond b (option_or o p) None ≡ option_or (cond b o None) (cond b p None)
within_or true o p = refl
within_or false o p = refl

-- what is merged in a range is merged of what is in the range
pub merged_within : MergedWithin
merged_within range table other h g =
    same_tables (pairs_within range (merged table other)) (merged (pairs_within range table) (pairs_within range other))
    (ascending-pairs_within range (merged table other) (ascending-merged table other h))
    (ascending-merged (pairs_within range table) (pairs_within range other) (ascending-pairs_within range table h))
    (λ q. value_at-pairs_within range q (merged table other)
    ∙ ap (λ o. cond (within range q) o None) (value_at-merged q table other g)
    ∙ within_or (within range q) (value_at q other) (value_at q table)
    ∙ sym (value_at-merged q (pairs_within range table) (pairs_within range other) (ascending-pairs_within range other g)
    ∙ (λ i. option_or (value_at-pairs_within range q other i) (value_at-pairs_within range q table i))))

or_either_way : (o p : Option Text) → (is_some p ≡ true → o ≡ None) → option_or o p ≡ option_or p o
or_either_way None None h = refl
or_either_way None (Some v) h = refl
or_either_way (Some u) None h = refl
or_either_way (Some u) (Some v) h = absurd (none-some u (sym (h refl)))

-- tables with no key in common merge to the same either way
pub merged_either_way : MergedEitherWay
merged_either_way table other h g apart =
    same_tables (merged table other) (merged other table) (ascending-merged table other h) (ascending-merged other table g)
    (λ q. value_at-merged q table other g ∙ or_either_way (value_at q other) (value_at q table) (apart q) ∙ sym (value_at-merged q other table h))

-- ---- how many pairs

fact : (b : Bool) → b ≡ true → T b
fact true e = tt
fact false e = absurd (false≢true e)

-- a pair at a new key is one more
length_new : (key value : Text) (table : Table) → IsAscending table → value_at key table ≡ None → length (with_pair key value table) ≡ length table + 1
length_new key value table h none =
    length-put text_cmp text_total key value table (fact _ h) ∙ ap (λ (o : Option Text). cond (is_some o) (length table) (length table + 1)) none

-- a table with the first pair of another shares no key with the rest
rest_apart : (pair : Text × Text) (table pairs : Table) → IsAscending (pair ∷ pairs) → ShareNoKey table (pair ∷ pairs) → ShareNoKey (with_pair pair.0 pair.1 table) pairs
rest_apart pair table pairs g apart key there = by (same key pair.0) refl
  where
    by : (b : Bool) → same key pair.0 ≡ b → value_at key pairs ≡ None
    by true e = value_at-first_again key pair pairs g e
    by false e =
        sym (value_at_later key pair pairs e)
        ∙ apart key (ap is_some (sym (value_at-with_pair key pair.0 pair.1 table ∙ cond-false (same key pair.0) (Some pair.1) (value_at key table) e)) ∙ there)

-- tables with no key in common merge to as many pairs as both have
pub merged_length : MergedLength
merged_length table [] h g apart = omega arith
merged_length table (pair ∷ pairs) h g apart =
    let here = value_at_here pair.0 pair pairs (same_itself pair.0) in
    let new : value_at pair.0 table ≡ None = nothing_from (value_at pair.0 table) (λ there. none-some pair.1 (sym (apart pair.0 there) ∙ here)) in
    let more = merged_length (with_pair pair.0 pair.1 table) pairs (ascending-with_pair pair.0 pair.1 table h) (ascending-tail pair pairs g) (rest_apart pair table pairs g apart) in
    let one = length_new pair.0 pair.1 table h new in
    omega (arith, more, one)

-- ---- in any order

-- a table with those that are made of elements, one after another
abbrev pub merged_each : {X : Type 0} → (X → Table) → Table → List X → Table
merged_each make table xs = fold (λ t x. merged t (make x)) table xs

-- merges leave keys ascending
pub ascending-merged_each : {X : Type 0} (make : X → Table) (table : Table) (xs : List X) → IsAscending table → IsAscending (merged_each make table xs)
ascending-merged_each make table [] h = h
ascending-merged_each make table (x ∷ xs) h = ascending-merged_each make (merged table (make x)) xs (ascending-merged table (make x) h)

-- where no table has a key the first one decides
each_silent : {X : Type 0} (make : X → Table) (q : Text) (table : Table) (xs : List X) → ((x : X) → IsIn x xs → IsAscending (make x)) → ((x : X) → IsIn x xs → value_at q (make x) ≡ None) → value_at q (merged_each make table xs) ≡ value_at q table
each_silent make q table [] up none = refl
each_silent make q table (x ∷ xs) up none =
    each_silent make q (merged table (make x)) xs (λ y m. up y (inr m)) (λ y m. none y (inr m))
    ∙ value_at-merged q table (make x) (up x (inl refl)) ∙ ap (λ o. option_or o (value_at q table)) (none x (inl refl))

-- the value stands already, or one of the tables has it
abbrev IsSaid : {X : Type 0} → (X → Table) → Text → Text → Table → List X → Type 0
IsSaid {X} make q value table xs = (value_at q table ≡ Some value) ⊎ ((x : X) × IsIn x xs × (value_at q (make x) ≡ Some value))

-- one table more
said_by : {X : Type 0} (make : X → Table) (q value : Text) (table : Table) (x : X) (xs : List X) (o : Option Text) → value_at q (make x) ≡ o → ((different : Text) → o ≡ Some different → different ≡ value)
    → IsSaid make q value table (x ∷ xs) → (value_at q (merged table (make x)) ≡ option_or o (value_at q table)) → IsSaid make q value (merged table (make x)) xs
said_by make q value table x xs (Some v) e one said at = inl (at ∙ ap (λ w. Some w) (one v refl))
said_by make q value table x xs None e one (inl here) at = inl (at ∙ here)
said_by {X} make q value table x xs None e one (inr w) at = elim w.1 [
  | inl is ↦ absurd (none-some value (sym e ∙ ap (λ (y : X). value_at q (make y)) (sym is) ∙ w.2))
  | inr m ↦ inr (w.0, m, w.2)
]

-- where one has a value and none another, that value comes
each_said : {X : Type 0} (make : X → Table) (q value : Text) (table : Table) (xs : List X) → ((x : X) → IsIn x xs → IsAscending (make x)) → ((x : X) → IsIn x xs → (different : Text) → value_at q (make x) ≡ Some different → different ≡ value)
    → IsSaid make q value table xs → value_at q (merged_each make table xs) ≡ Some value
each_said make q value table [] up one (inl here) = here
each_said make q value table [] up one (inr w) = absurd w.1
each_said make q value table (x ∷ xs) up one said =
    each_said make q value (merged table (make x)) xs (λ y m. up y (inr m)) (λ y m. one y (inr m))
    (said_by make q value table x xs (value_at q (make x)) refl (one x (inl refl)) said (value_at-merged q table (make x) (up x (inl refl))))

-- each two of the tables agree
abbrev pub EachAgree : {X : Type 0} → (X → Table) → List X → Type 0
EachAgree {X} make xs = (x y : X) → IsIn x xs → IsIn y xs → Agree (make x) (make y)

-- the order of tables of which each two agree does not matter
pub each_in_any_order : {X : Type 0} (make : X → Table) (table : Table) (xs ys : List X) → IsAscending table → ((x : X) → IsIn x xs → IsAscending (make x)) → EachAgree make xs → IsPermutation xs ys
    → merged_each make table xs ≡ merged_each make table ys
each_in_any_order {X} make table xs ys h up agree p =
    same_tables (merged_each make table xs) (merged_each make table ys) (ascending-merged_each make table xs h) (ascending-merged_each make table ys h)
    (λ q. at q (cases_Bool (list_any (λ x. is_some (value_at q (make x))) xs)))
  where
    back : (x : X) → IsIn x ys → IsIn x xs
    back x m = IsIn-from_Contains x xs (Contains-permutation ys xs x (IsPermutation-sym xs ys p) (Contains-from_IsIn x ys m))

    forth : (x : X) → IsIn x xs → IsIn x ys
    forth x m = IsIn-from_Contains x ys (Contains-permutation xs ys x p (Contains-from_IsIn x xs m))

    at : (q : Text) → (list_any (λ x. is_some (value_at q (make x))) xs ≡ true) ⊎ (list_any (λ x. is_some (value_at q (make x))) xs ≡ false)
        → value_at q (merged_each make table xs) ≡ value_at q (merged_each make table ys)
    at q (inl e) =
        let w = IsIn-from_list_any (λ x. is_some (value_at q (make x))) xs e in
        let v = something (value_at q (make w.0)) w.2 in
        let one : (x : X) → IsIn x xs → (different : Text) → value_at q (make x) ≡ Some different → different ≡ v.0 = λ x m different is. agree x w.0 m w.1 q different v.0 is v.1 in
        each_said make q v.0 table xs up one (inr (w.0, w.1, v.1))
        ∙ sym (each_said make q v.0 table ys (λ x m. up x (back x m)) (λ x m. one x (back x m)) (inr (w.0, forth w.0 w.1, v.1)))
    at q (inr e) =
        let none : (x : X) → IsIn x xs → value_at q (make x) ≡ None = λ x m.
        none_from_test (value_at q (make x)) (false_from_ne_true (is_some (value_at q (make x))) (λ t. true≢false (sym (list_any-from_IsIn (λ y. is_some (value_at q (make y))) x xs t m) ∙ e))) in
        each_silent make q table xs up none
        ∙ sym (each_silent make q table ys (λ x m. up x (back x m)) (λ x m. none x (back x m)))

-- tables of which each two agree merge to the same in any order
pub merged_in_any_order : MergedInAnyOrder
merged_in_any_order table others more h up agree p =
    each_in_any_order (λ (t : Table). t) table others more h (λ x m. AllByRecursion-at IsAscending x others up m)
    (λ x y m n. AllByRecursion-at (Agree x) y others (AllByRecursion-at (λ t. AllByRecursion (Agree t) others) x others agree m) n) p
