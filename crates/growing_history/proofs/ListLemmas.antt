-- What is listed as changed, and what the list makes of a table.
use Rattle.std.proofs.Common.{◌≡◌, ◌≢◌, ℕ, Bool, true, false, cond, not, List, [], ◌∷◌, map, filter, take, Option, Some, None, refl, sym, ap, ◌∙◌, subst, inl, inr}
use Rattle.std.specs.Prelude.{◌||◌}
use Rattle.std.specs.List.{list_any, AllByRecursion}
use Rattle.std.specs.List.Sorted.{IsStrictlySortedBy}
use Rattle.std.specs.Option.{option_or}
use Rattle.std.proofs.lemmas.Bool.{false≢true}
use Rattle.std.proofs.lemmas.Option.{none-some}
use Rattle.std.proofs.lemmas.List.Kept.{IsStrictlySortedBy-filter}
use Rattle.semantics.specs.Texts.{Text, text_cmp, same, Range, within, Table, value_at, pairs_within}
use Rattle.semantics.specs.Histories.{History}
use Rattle.semantics.specs.States.{merged, state}
use Rattle.semantics.proofs.PieceLemmas.{equal_by_same, same_by_equal}
use Rattle.semantics.proofs.MemberLemmas.{Has, has_from_contains, contains_from_has, has_filter, has_filtered, has_map, has_mapped, any_from_has, has_from_any}
use Rattle.semantics.proofs.TableLemmas.{IsAscending, ascending-with_pair, value_at-with_pair, same_tables, has_from_value, value_from_has}
use Rattle.semantics.proofs.MergedLemmas.{ascending-merged, ascending-pairs_within, ascending-without_key, value_at-merged, value_at-pairs_within, value_at-without_key}
use Rattle.semantics.proofs.StateLemmas.{ascending-state}
use Rattle.growing_history.proofs.ChangeLemmas.{sorted_keys}
use Rattle.growing_history.proofs.ElementLemmas.{has_of_all}
use Rattle.growing_history.proofs.SortedLemmas.{same_sorted}
use Rattle.growing_history.specs.StateChanges.{Change, same_value, differ_at, change_to, changes_among, keys_of_both, changes_between, changes, set_or_taken, with_changes}
use Rattle.growing_history.specs.ListLaws.{ChangesTurn, ChangesAscend, IsChange, ChangesAreThose, HoldAllChanges, ChangesAmongKeys, ChangesOfPairs}

-- ---- values

-- values that are the same by the test are one
one_value : (v w : Option Text) → same_value v w ≡ true → v ≡ w
one_value None None e = refl
one_value None (Some w) e = absurd (false≢true e)
one_value (Some v) None e = absurd (false≢true e)
one_value (Some v) (Some w) e = ap Some (equal_by_same v w e)

-- a value is the same as itself
pub same_value_itself : (v : Option Text) → same_value v v ≡ true
same_value_itself None = refl
same_value_itself (Some v) = same_by_equal v v refl

-- what is not false once turned round is true
turned : (b : Bool) → not b ≡ false → b ≡ true
turned true e = refl
turned false e = absurd (false≢true (sym e))

-- where tables do not differ at a key, they have one value there
same_there : (before after : Table) (key : Text) → differ_at before after key ≡ false → value_at key before ≡ value_at key after
same_there before after key e = one_value (value_at key before) (value_at key after) (turned (same_value (value_at key before) (value_at key after)) e)

-- where they have one value, they do not differ
differ_not : (before after : Table) (key : Text) → value_at key before ≡ value_at key after → differ_at before after key ≡ true → ⊥
differ_not before after key e d =
    false≢true (ap not (sym (ap (λ v. same_value v (value_at key after)) e ∙ same_value_itself (value_at key after))) ∙ d)

-- ---- the keys that one of two tables has

-- a key with a value is one of the keys
pub key_from_value : (table : Table) (key : Text) (v : Option Text) (value : Text) → value_at key table ≡ v → v ≡ Some value → Has (map (λ pair. pair.0) table) key
key_from_value table key v value at is = has_mapped (λ pair. pair.0) table (key, value) (has_from_value key value table (at ∙ is))

-- what has a value under a condition has it where the condition holds
held_by : (b : Bool) (v : Option Text) (value : Text) → cond b v None ≡ Some value → b ≡ true
held_by true v value e = refl
held_by false v value e = absurd (none-some value e)

-- a key of both lies in the range
both_inside : (range : Range) (before after : Table) (key : Text) → IsAscending before → Has (keys_of_both range before after) key → within range key ≡ true
both_inside range before after key up h =
    let w = has_map (λ pair. pair.0) (pairs_within range (merged before after)) key h in
    let at = value_from_has w.0.0 w.0.1 (pairs_within range (merged before after)) (ascending-pairs_within range (merged before after) (ascending-merged before after up)) w.1 in
    held_by (within range key) (value_at key (merged before after)) w.0.1
    (sym (value_at-pairs_within range key (merged before after)) ∙ ap (λ k. value_at k (pairs_within range (merged before after))) (sym w.2) ∙ at)

-- a key of the range at which two values are not one has a value in one of the tables, and so in both together
both_by : (range : Range) (before after : Table) (key : Text) (v w : Option Text) → IsAscending after → within range key ≡ true → value_at key before ≡ v → value_at key after ≡ w → (v ≡ w → ⊥) →
    (value : Text) × (value_at key (pairs_within range (merged before after)) ≡ Some value)
both_by range before after key None None up inside old new other = absurd (other refl)
both_by range before after key v (Some w) up inside old new other = (
  w,
  value_at-pairs_within range key (merged before after) ∙ ap (λ b. cond b (value_at key (merged before after)) None) inside
      ∙ value_at-merged key before after up ∙ ap (λ o. option_or o (value_at key before)) new,
)
both_by range before after key (Some v) None up inside old new other = (
  v,
  value_at-pairs_within range key (merged before after) ∙ ap (λ b. cond b (value_at key (merged before after)) None) inside
      ∙ value_at-merged key before after up ∙ ap (λ o. option_or o (value_at key before)) new ∙ old,
)

-- so it is one of the keys of both
both_has : (range : Range) (before after : Table) (key : Text) → IsAscending after → within range key ≡ true → (value_at key before ≡ value_at key after → ⊥) → Has (keys_of_both range before after) key
both_has range before after key up inside other =
    let found = both_by range before after key (value_at key before) (value_at key after) up inside refl refl other in
    key_from_value (pairs_within range (merged before after)) key (Some found.0) found.0 found.1 refl

-- the keys of both ascend
both_ascend : (range : Range) (before after : Table) → IsAscending before → IsStrictlySortedBy text_cmp (keys_of_both range before after)
both_ascend range before after up = sorted_keys (pairs_within range (merged before after)) (ascending-pairs_within range (merged before after) (ascending-merged before after up))

-- ---- one key

-- a key at which both have the same value, or none
pub no_change : (key : Text) (before after : Table) → same_value (value_at key before) (value_at key after) ≡ true → changes_among (key ∷ []) before after ≡ []
no_change key before after e = ap (λ b. map (change_to after) (cond (not b) (key ∷ []) [])) e

-- a key at which they have not
pub one_change : (key : Text) (before after : Table) → same_value (value_at key before) (value_at key after) ≡ false → changes_among (key ∷ []) before after ≡ change_to after key ∷ []
one_change key before after e = ap (λ b. map (change_to after) (cond (not b) (key ∷ []) [])) e

-- ---- one table

-- at each key a table has what it has
alike : (keys : List Text) (table : Table) → changes_among keys table table ≡ []
alike [] table = refl
alike (key ∷ keys) table =
    ap (λ b. map (change_to table) (cond (not b) (key ∷ filter (differ_at table table) keys) (filter (differ_at table table) keys))) (same_value_itself (value_at key table))
    ∙ alike keys table

-- from a position to itself nothing changed
pub nothing_between : (range : Range) (h : History) (p : ℕ) → changes range h p p ≡ []
unfolding changes
nothing_between range h p = alike (keys_of_both range (state (take p h)) (state (take p h))) (state (take p h))

-- ---- looking at some keys alone

module _ (range : Range) (before after : Table) (keys : List Text) (first : IsAscending before) (second : IsAscending after) (all : HoldAllChanges range before after keys) where
  -- a key that differs and is one of these is one of both
  to_both : (key : Text) → Has (filter (differ_at before after) keys) key → Has (filter (differ_at before after) (keys_of_both range before after)) key
  to_both key h =
      let kept = has_filter (differ_at before after) keys key h in
      let inside = has_of_all (λ k. within range k ≡ true) keys key all.inside kept.1 in
      has_filtered (differ_at before after) (keys_of_both range before after) key kept.0
      (both_has range before after key second inside (λ e. differ_not before after key e kept.0))

  -- whether a key is listed, where that is known
  listed_by : (key : Text) (b : Bool) → list_any (same key) keys ≡ b → within range key ≡ true → differ_at before after key ≡ true → Has keys key
  listed_by key true e inside d = let w = has_from_any (same key) keys e in subst (Has keys) (sym (equal_by_same key w.0 w.2)) w.1
  listed_by key false e inside d =
      absurd (differ_not before after key
      (all.complete key inside (λ c. false≢true (sym e ∙ any_from_has (same key) keys key (has_from_contains keys key c) (same_by_equal key key refl)))) d)

  -- a key that differs and is one of both is one of these
  from_both : (key : Text) → Has (filter (differ_at before after) (keys_of_both range before after)) key → Has (filter (differ_at before after) keys) key
  from_both key h =
      let kept = has_filter (differ_at before after) (keys_of_both range before after) key h in
      has_filtered (differ_at before after) keys key kept.0
      (listed_by key (list_any (same key) keys) refl (both_inside range before after key first kept.1) kept.0)

  -- the same keys differ
  same_keys : filter (differ_at before after) keys ≡ filter (differ_at before after) (keys_of_both range before after)
  same_keys =
      same_sorted (filter (differ_at before after) keys) (filter (differ_at before after) (keys_of_both range before after))
      (IsStrictlySortedBy-filter text_cmp (differ_at before after) keys all.ascend)
      (IsStrictlySortedBy-filter text_cmp (differ_at before after) (keys_of_both range before after) (both_ascend range before after first)) to_both from_both

-- who looks at keys among which are all that differ finds what changed
pub changes_among_keys : ChangesAmongKeys
changes_among_keys range before after keys first second all = ap (map (change_to after)) (same_keys range before after keys first second all)

-- ---- the pairs of the range alone

-- at a key of the range its pairs have the value of the table
value_inside : (range : Range) (table : Table) (key : Text) → within range key ≡ true → value_at key (pairs_within range table) ≡ value_at key table
value_inside range table key inside = value_at-pairs_within range key table ∙ ap (λ b. cond b (value_at key table) None) inside

-- tests that agree at each element keep the same, and functions that agree there make the same
pub made_same : {A B : Type 0} (p q : A → Bool) (f g : A → B) (xs : List A) → ((x : A) → Has xs x → p x ≡ q x) → ((x : A) → Has xs x → f x ≡ g x) → map f (filter p xs) ≡ map g (filter q xs)
made_same p q f g [] tests makes = refl
made_same p q f g (x ∷ xs) tests makes =
    ap (λ b. map f (cond b (x ∷ filter p xs) (filter p xs))) (tests x (inl refl)) ∙ by (q x) (made_same p q f g xs (λ y h. tests y (inr h)) (λ y h. makes y (inr h)))
  where
    by : (b : Bool) → map f (filter p xs) ≡ map g (filter q xs) → map f (cond b (x ∷ filter p xs) (filter p xs)) ≡ map g (cond b (x ∷ filter q xs) (filter q xs))
    by true rest = ap (λ y. y ∷ map f (filter p xs)) (makes x (inl refl)) ∙ ap (λ ys. g x ∷ ys) rest
    by false rest = rest

-- looking at keys of the range in its pairs is looking at them in the tables
among_inside : (range : Range) (before after : Table) (keys : List Text) → ((key : Text) → Has keys key → within range key ≡ true) →
    changes_among keys (pairs_within range before) (pairs_within range after) ≡ changes_among keys before after
among_inside range before after keys inside =
    made_same (differ_at (pairs_within range before) (pairs_within range after)) (differ_at before after) (change_to (pairs_within range after)) (change_to after) keys
    (λ key h.
    ap (λ v. not (same_value v (value_at key (pairs_within range after)))) (value_inside range before key (inside key h))
    ∙ ap (λ w. not (same_value (value_at key before) w)) (value_inside range after key (inside key h)))
    (λ key h. ap (λ v. record { key = key; value = v }) (value_inside range after key (inside key h)))

-- elements of which each passes
all_inside : (test : Text → Bool) (keys : List Text) → ((key : Text) → Has keys key → test key ≡ true) → AllByRecursion (λ key. test key ≡ true) keys
all_inside test [] h = tt
all_inside test (key ∷ keys) h = (h key (inl refl), all_inside test keys (λ k later. h k (inr later)))

-- whether two values are one, where a test says so
decided : (before after : Table) (key : Text) (b : Bool) → differ_at before after key ≡ b → ((value_at key before ≡ value_at key after → ⊥) → ⊥) → value_at key before ≡ value_at key after
decided before after key true e apart = absurd (apart (λ same. differ_not before after key same e))
decided before after key false e apart = same_there before after key e

-- the keys that one of the pairs of the range has are enough
pub changes_among_pairs : (range : Range) (before after : Table) → IsAscending before → IsAscending after →
    changes_among (keys_of_both range (pairs_within range before) (pairs_within range after)) before after ≡ changes_between range before after
changes_among_pairs range before after first second =
    let old : Table = pairs_within range before in
    let new : Table = pairs_within range after in
    let keys : List Text = keys_of_both range old new in
    let up : IsAscending old = ascending-pairs_within range before first in
    changes_among_keys range before after keys first second (record {
      ascend = both_ascend range old new up;
      inside = all_inside (within range) keys (λ key h. both_inside range old new key up h);
      complete = λ key within_range none. decided before after key (differ_at before after key) refl (λ other.
          none (contains_from_has keys key (both_has range old new key (ascending-pairs_within range after second) within_range
          (λ e. other (sym (value_inside range before key within_range) ∙ e ∙ value_inside range after key within_range)))));
    })

-- what changed is told by the pairs of the range
pub changes_of_pairs : ChangesOfPairs
changes_of_pairs range before after first second =
    let old : Table = pairs_within range before in
    let new : Table = pairs_within range after in
    among_inside range before after (keys_of_both range old new) (λ key h. both_inside range old new key (ascending-pairs_within range before first) h)
    ∙ changes_among_pairs range before after first second

-- ---- what is listed

-- the keys of what is listed
keys_listed : (keys : List Text) (before after : Table) → map (λ (change : Change). change.key) (changes_among keys before after) ≡ filter (differ_at before after) keys
keys_listed keys before after = go (filter (differ_at before after) keys)
  where
    go : (ks : List Text) → map (λ (change : Change). change.key) (map (change_to after) ks) ≡ ks
    go [] = refl
    go (k ∷ ks) = ap (λ others. k ∷ others) (go ks)

-- the keys that are listed ascend
pub changes_ascend : ChangesAscend
unfolding changes
changes_ascend range h q p =
    let before : Table = state (take q h) in
    let after : Table = state (take p h) in
    subst (IsStrictlySortedBy text_cmp) (sym (keys_listed (keys_of_both range before after) before after))
    (IsStrictlySortedBy-filter text_cmp (differ_at before after) (keys_of_both range before after) (both_ascend range before after (ascending-state (take q h))))

-- a change that is listed is one
listed_is : (range : Range) (h : History) (q p : ℕ) (change : Change) → Has (changes range h q p) change → IsChange range h q p change
unfolding changes
listed_is range h q p change listed =
    let before : Table = state (take q h) in
    let after : Table = state (take p h) in
    let w = has_map (change_to after) (filter (differ_at before after) (keys_of_both range before after)) change listed in
    let kept = has_filter (differ_at before after) (keys_of_both range before after) w.0 w.1 in
    subst (IsChange range h q p) w.2 (record {
      inside = both_inside range before after w.0 (ascending-state (take q h)) kept.1;
      later = refl;
      other = λ e. differ_not before after w.0 e kept.0;
    })

-- and each is listed
is_listed : (range : Range) (h : History) (q p : ℕ) (change : Change) → IsChange range h q p change → Has (changes range h q p) change
unfolding changes
is_listed range h q p change is =
    let before : Table = state (take q h) in
    let after : Table = state (take p h) in
    let key : Text = change.key in
    let other : value_at key before ≡ value_at key after → ⊥ = λ e. is.other (e ∙ sym is.later) in
    let made : change_to after key ≡ change = ap (λ v. record { key = key; value = v }) (sym is.later) in
    subst (Has (changes_between range before after)) made
    (has_mapped (change_to after) (filter (differ_at before after) (keys_of_both range before after)) key
    (has_filtered (differ_at before after) (keys_of_both range before after) key (differs key other (differ_at before after key) refl)
    (both_has range before after key (ascending-state (take p h)) is.inside other)))
  where
    differs : (key : Text) → (value_at key (state (take q h)) ≡ value_at key (state (take p h)) → ⊥) → (b : Bool) → differ_at (state (take q h)) (state (take p h)) key ≡ b → differ_at (state (take q h)) (state (take p h)) key ≡ true
    differs key other true e = e
    differs key other false e = absurd (other (same_there (state (take q h)) (state (take p h)) key e))

-- exactly the changes are listed
pub changes_are_those : ChangesAreThose
changes_are_those range h q p change =
    (λ c. listed_is range h q p change (has_from_contains (changes range h q p) change c), λ is. contains_from_has (changes range h q p) change (is_listed range h q p change is))

-- ---- setting and taking out

-- a condition turned round
cond_not : (b : Bool) (v : Option Text) → cond (not b) v None ≡ cond b None v
cond_not true v = refl
cond_not false v = refl

-- at its key a table has the value that was set, or none, and elsewhere what it had
value_at-set_or_taken : (q key : Text) (o : Option Text) (table : Table) → value_at q (set_or_taken key o table) ≡ cond (same q key) o (value_at q table)
value_at-set_or_taken q key None table = value_at-without_key q key table ∙ cond_not (same q key) (value_at q table)
value_at-set_or_taken q key (Some value) table = value_at-with_pair q key value table

-- its keys ascend
ascending-set_or_taken : (key : Text) (o : Option Text) (table : Table) → IsAscending table → IsAscending (set_or_taken key o table)
ascending-set_or_taken key None table up = ascending-without_key key table up
ascending-set_or_taken key (Some value) table up = ascending-with_pair key value table up

-- a value that is set now or later
set_now_or_later : (now later : Bool) (at here old : Option Text) → (now ≡ true → here ≡ at) → cond later at (cond now here old) ≡ cond (now || later) at old
set_now_or_later true true at here old e = refl
set_now_or_later true false at here old e = e refl
set_now_or_later false true at here old e = refl
set_now_or_later false false at here old e = refl

-- after changes to what a second table has, a table has its values at their keys, and elsewhere what it had
value_at-with_changes : (q : Text) (after : Table) (keys : List Text) (table : Table) →
    value_at q (with_changes (map (change_to after) keys) table) ≡ cond (list_any (same q) keys) (value_at q after) (value_at q table)
value_at-with_changes q after [] table = refl
value_at-with_changes q after (key ∷ keys) table =
    value_at-with_changes q after keys (set_or_taken key (value_at key after) table)
    ∙ ap (cond (list_any (same q) keys) (value_at q after)) (value_at-set_or_taken q key (value_at key after) table)
    ∙ set_now_or_later (same q key) (list_any (same q) keys) (value_at q after) (value_at key after) (value_at q table) (λ e. ap (λ k. value_at k after) (sym (equal_by_same q key e)))

-- its keys ascend
ascending-with_changes : (after : Table) (keys : List Text) (table : Table) → IsAscending table → IsAscending (with_changes (map (change_to after) keys) table)
ascending-with_changes after [] table up = up
ascending-with_changes after (key ∷ keys) table up = ascending-with_changes after keys (set_or_taken key (value_at key after) table) (ascending-set_or_taken key (value_at key after) table up)

-- whether a key of the range is listed, where that and whether it lies in the range are known
turned_by : (range : Range) (before after : Table) (q : Text) (listed inside : Bool) → IsAscending before → IsAscending after →
    list_any (same q) (filter (differ_at before after) (keys_of_both range before after)) ≡ listed → within range q ≡ inside →
    cond listed (value_at q after) (cond inside (value_at q before) None) ≡ cond inside (value_at q after) None
turned_by range before after q true true first second l i = refl
turned_by range before after q true false first second l i =
    let w = has_from_any (same q) (filter (differ_at before after) (keys_of_both range before after)) l in
    let kept = has_filter (differ_at before after) (keys_of_both range before after) w.0 w.1 in
    absurd (false≢true (sym i ∙ ap (within range) (equal_by_same q w.0 w.2) ∙ both_inside range before after w.0 first kept.1))
turned_by range before after q false true first second l i =
    decided before after q (differ_at before after q) refl (λ other.
    false≢true (sym l ∙ any_from_has (same q) (filter (differ_at before after) (keys_of_both range before after)) q
    (has_filtered (differ_at before after) (keys_of_both range before after) q (differs other (differ_at before after q) refl) (both_has range before after q second i other)) (same_by_equal q q refl)))
  where
    differs : (value_at q before ≡ value_at q after → ⊥) → (b : Bool) → differ_at before after q ≡ b → differ_at before after q ≡ true
    differs other true e = e
    differs other false e = absurd (other (same_there before after q e))
turned_by range before after q false false first second l i = refl

-- the changes between two tables turn the pairs of the first into those of the second
turn_between : (range : Range) (before after : Table) → IsAscending before → IsAscending after → with_changes (changes_between range before after) (pairs_within range before) ≡ pairs_within range after
turn_between range before after first second =
    let keys : List Text = filter (differ_at before after) (keys_of_both range before after) in
    same_tables (with_changes (changes_between range before after) (pairs_within range before)) (pairs_within range after)
    (ascending-with_changes after keys (pairs_within range before) (ascending-pairs_within range before first)) (ascending-pairs_within range after second)
    (λ q.
    value_at-with_changes q after keys (pairs_within range before)
    ∙ ap (cond (list_any (same q) keys) (value_at q after)) (value_at-pairs_within range q before)
    ∙ turned_by range before after q (list_any (same q) keys) (within range q) first second refl refl
    ∙ sym (value_at-pairs_within range q after))

-- setting and taking out what is listed turns the earlier pairs into the later ones
pub changes_turn : ChangesTurn
unfolding changes
changes_turn range h q p = turn_between range (state (take q h)) (state (take p h)) (ascending-state (take q h)) (ascending-state (take p h))
