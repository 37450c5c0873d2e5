-- The changes between two tables, pair by pair.
use Rattle.std.proofs.Common.{◌≡◌, ◌⊎◌, ℕ, ◌+◌, ◌<◌, ◌≤◌, Bool, true, false, cond, not, List, [], ◌∷◌, ◌++◌, map, filter, take, drop, get_or, length, Option, Some, None, refl, sym, ap, ◌∙◌, subst, inl, inr, append_assoc, append-nil, Ordering, Less, Equal, Greater, is_lt}
use Rattle.std.specs.Prelude.{if◌then◌else◌}
use Rattle.std.specs.FinMap.Entries.{is_sorted, below_all}
use Rattle.std.specs.List.{AllByRecursion}
use Rattle.std.specs.List.Sorted.{IsStrictlySortedBy}
use Rattle.std.specs.Option.{option_or}
use Rattle.std.specs.Ordering.{ordering_reverse}
use Rattle.std.proofs.lemmas.Bool.{and_from, and_parts, false≢true}
use Rattle.std.proofs.lemmas.List.{drop_more, drop_all, take_more, map-append}
use Rattle.semantics.specs.Texts.{Text, text_cmp, same, Table, value_at, pairs_within}
use Rattle.semantics.specs.States.{merged}
use Rattle.semantics.proofs.PieceLemmas.{equal_by_same, same_by_equal}
use Rattle.semantics.proofs.MemberLemmas.{Has}
use Rattle.semantics.proofs.TableLemmas.{IsAscending, equal_by_tie, same_tables, text_total, tie_itself, value_at_here, value_at_later}
use Rattle.semantics.proofs.MergedLemmas.{ascending-merged, ascending-pairs_within, ascending-tail, value_at-merged, value_at-pairs_within}
use Rattle.key_ranges.specs.Ranges.{just}
use Rattle.key_ranges.proofs.PrefixLemmas.{within-just}
use Rattle.growing_history.proofs.ChangeLemmas.{below_keys}
use Rattle.growing_history.proofs.ElementLemmas.{has_of_all}
use Rattle.growing_history.proofs.SortedLemmas.{never_less}
use Rattle.layering.specs.MergeLaws.{begins_merged}
use Rattle.layering.proofs.MergeLemmas.{merged_into_nothing}
use Rattle.layering.proofs.StepLemmas.{merged_stepwise}
use Rattle.cell_slots.proofs.MergingLemmas.{ascends-drop}
use Rattle.growing_history.specs.StateChanges.{Change, same_value, differ_at, change_to, changes_among}
use Rattle.growing_history.proofs.ListLemmas.{key_from_value, made_same}
use Rattle.range_cells.specs.Asked.{pairs_at}
use Rattle.range_cells.specs.Comparing.{changes_of, gone_pair, new_pair, change_of_both, begins_changes}

-- the keys of a table
abbrev keys : Table → List Text
keys table = map (λ pair. pair.0) table

-- what is made of a list and one more
pub mapped_push : {A B : Type 0} (f : A → B) (base so_far new : List B) (xs : List A) (i : ℕ) (x : A) (y : B) → i < length xs → x ≡ get_or xs i x → so_far ≡ base ++ map f (take i xs) → y ≡ f x →
    new ≡ so_far ++ y ∷ [] → new ≡ base ++ map f (take (i + 1) xs)
mapped_push f base so_far new xs i x y less at were made more =
    more ∙ (λ j. were j ++ made j ∷ []) ∙ append_assoc base (map f (take i xs)) (f x ∷ [])
    ∙ ap (λ l. base ++ l) (sym (map-append f (take i xs) (x ∷ [])))
    ∙ ap (λ l. base ++ map f l) (ap (λ k. take i xs ++ k ∷ []) at ∙ sym (take_more xs i x less))

-- ---- keys above the first

-- a key above another is not the same
apart : (x key : Text) → text_cmp x key ≡ Less → same key x ≡ false
apart x key less = by (same key x) refl
  where
    by : (b : Bool) → same key x ≡ b → same key x ≡ false
    by true s = absurd (never_less x (subst (λ k. text_cmp x k ≡ Less) (equal_by_same key x s) less))
    by false s = s

-- nor is it where they are compared the other way round
apart_back : (x key : Text) → same x key ≡ false → same key x ≡ false
apart_back x key other = by (same key x) refl
  where
    by : (b : Bool) → same key x ≡ b → same key x ≡ false
    by true s = absurd (false≢true (sym other ∙ same_by_equal x key (sym (equal_by_same key x s))))
    by false s = s

-- at a key above the first one a table has what the others have
value_above : (pair : Text × Text) (table : Table) (key : Text) → text_cmp pair.0 key ≡ Less → value_at key (pair ∷ table) ≡ value_at key table
value_above pair table key less = value_at_later key pair table (apart pair.0 key less)

-- the keys behind the first are above it
above_first : (pair : Text × Text) (rest : Table) → IsAscending (pair ∷ rest) → (key : Text) → Has (keys rest) key → text_cmp pair.0 key ≡ Less
above_first pair rest up key h = has_of_all (λ k. text_cmp pair.0 k ≡ Less) (keys rest) key (below_keys pair.0 rest (and_parts _ _ up).0) h

-- a first key has no value in a table that is merged behind it
none_behind : (pair : Text × Text) (table other : Table) → IsAscending (pair ∷ merged table other) → IsAscending other → (v : Option Text) → value_at pair.0 other ≡ v → v ≡ None
none_behind pair table other up ascends None at = refl
none_behind pair table other up ascends (Some v) at =
    let found : value_at pair.0 (merged table other) ≡ Some v = value_at-merged pair.0 table other ascends ∙ ap (λ o. option_or o (value_at pair.0 table)) at in
    absurd (never_less pair.0 (above_first pair (merged table other) up pair.0 (key_from_value (merged table other) pair.0 (Some v) v found refl)))

-- the same of the table that is merged into
none_before : (pair : Text × Text) (table other : Table) → IsAscending (pair ∷ merged table other) → IsAscending other → (v w : Option Text) → value_at pair.0 table ≡ v → value_at pair.0 other ≡ w → v ≡ None
none_before pair table other up ascends None w at there = refl
none_before pair table other up ascends (Some v) None at there =
    let found : value_at pair.0 (merged table other) ≡ Some v =
    value_at-merged pair.0 table other ascends ∙ ap (λ o. option_or o (value_at pair.0 table)) there ∙ at in
    absurd (never_less pair.0 (above_first pair (merged table other) up pair.0 (key_from_value (merged table other) pair.0 (Some v) v found refl)))
none_before pair table other up ascends (Some v) (Some w) at there =
    let found : value_at pair.0 (merged table other) ≡ Some w = value_at-merged pair.0 table other ascends ∙ ap (λ o. option_or o (value_at pair.0 table)) there in
    absurd (never_less pair.0 (above_first pair (merged table other) up pair.0 (key_from_value (merged table other) pair.0 (Some w) w found refl)))

-- ---- the first change

-- a key at which two values are not one comes with the second
changed_first : (key : Text) (ks : List Text) (before after : Table) (old new : Option Text) → value_at key before ≡ old → value_at key after ≡ new → same_value old new ≡ false →
    changes_among (key ∷ ks) before after ≡ record { key = key; value = new } ∷ changes_among ks before after
changed_first key ks before after old new at there differ =
    ap (λ b. map (change_to after) (cond b (key ∷ filter (differ_at before after) ks) (filter (differ_at before after) ks)))
    (ap (λ v. not (same_value v (value_at key after))) at ∙ ap (λ w. not (same_value old w)) there ∙ ap not differ)
    ∙ ap (λ v. record { key = key; value = v } ∷ changes_among ks before after) there

-- a key at which they are one is passed over
same_first : (key : Text) (ks : List Text) (before after : Table) (old new : Option Text) → value_at key before ≡ old → value_at key after ≡ new → same_value old new ≡ true →
    changes_among (key ∷ ks) before after ≡ changes_among ks before after
same_first key ks before after old new at there one =
    ap (λ b. map (change_to after) (cond b (key ∷ filter (differ_at before after) ks) (filter (differ_at before after) ks)))
    (ap (λ v. not (same_value v (value_at key after))) at ∙ ap (λ w. not (same_value old w)) there ∙ ap not one)

-- keys at which both tables have what two others have change as in those
changed_alike : (ks : List Text) (before after old new : Table) → ((key : Text) → Has ks key → value_at key before ≡ value_at key old) → ((key : Text) → Has ks key → value_at key after ≡ value_at key new) →
    changes_among ks before after ≡ changes_among ks old new
changed_alike ks before after old new first second =
    made_same (differ_at before after) (differ_at old new) (change_to after) (change_to new) ks
    (λ key h. ap (λ v. not (same_value v (value_at key after))) (first key h) ∙ ap (λ w. not (same_value (value_at key old) w)) (second key h))
    (λ key h. ap (λ v. record { key = key; value = v }) (second key h))

-- the pair of the first table comes first, and has gone
gone_comes : (first next : Text × Text) (before after : Table) → IsAscending (first ∷ before) → IsAscending (next ∷ after) → text_cmp first.0 next.0 ≡ Less →
    changes_of (first ∷ before) (next ∷ after) ≡ gone_pair first ∷ changes_of before (next ∷ after)
gone_comes first next before after up other less =
    let both : merged (first ∷ before) (next ∷ after) ≡ first ∷ merged before (next ∷ after) =
    merged_stepwise first next before after up other ∙ ap (λ o. begins_merged o first before next after) less in
    let ascends : IsAscending (first ∷ merged before (next ∷ after)) = subst IsAscending both (ascending-merged (first ∷ before) (next ∷ after) up) in
    let none = none_behind first before (next ∷ after) ascends other (value_at first.0 (next ∷ after)) refl in
    ap (λ table. changes_among (keys table) (first ∷ before) (next ∷ after)) both
    ∙ changed_first first.0 (keys (merged before (next ∷ after))) (first ∷ before) (next ∷ after) (Some first.1) None (value_at_here first.0 first before (same_by_equal first.0 first.0 refl)) none refl
    ∙ ap (λ rest. gone_pair first ∷ rest)
    (changed_alike (keys (merged before (next ∷ after))) (first ∷ before) (next ∷ after) before (next ∷ after)
    (λ key h. value_above first before key (above_first first (merged before (next ∷ after)) ascends key h)) (λ key h. refl))

-- the pair of the second table comes first, and has come
new_comes : (first next : Text × Text) (before after : Table) → IsAscending (first ∷ before) → IsAscending (next ∷ after) → text_cmp first.0 next.0 ≡ Greater →
    changes_of (first ∷ before) (next ∷ after) ≡ new_pair next ∷ changes_of (first ∷ before) after
new_comes first next before after up other more =
    let both : merged (first ∷ before) (next ∷ after) ≡ next ∷ merged (first ∷ before) after =
    merged_stepwise first next before after up other ∙ ap (λ o. begins_merged o first before next after) more in
    let ascends : IsAscending (next ∷ merged (first ∷ before) after) = subst IsAscending both (ascending-merged (first ∷ before) (next ∷ after) up) in
    let none = none_before next (first ∷ before) after ascends (ascending-tail next after other) (value_at next.0 (first ∷ before)) (value_at next.0 after) refl refl in
    ap (λ table. changes_among (keys table) (first ∷ before) (next ∷ after)) both
    ∙ changed_first next.0 (keys (merged (first ∷ before) after)) (first ∷ before) (next ∷ after) None (Some next.1) none (value_at_here next.0 next after (same_by_equal next.0 next.0 refl)) refl
    ∙ ap (λ rest. new_pair next ∷ rest)
    (changed_alike (keys (merged (first ∷ before) after)) (first ∷ before) (next ∷ after) (first ∷ before) after
    (λ key h. refl) (λ key h. value_above next after key (above_first next (merged (first ∷ before) after) ascends key h)))

-- the change from one value at a key to another, if they are not one
abbrev change_between : Text → Option Text → Option Text → List Change
change_between key old new = if same_value old new then [] else record { key = key; value = new } ∷ []

-- a key comes with the change there
one_change : (key : Text) (ks : List Text) (before after : Table) (old new : Option Text) → value_at key before ≡ old → value_at key after ≡ new →
    changes_among (key ∷ ks) before after ≡ change_between key old new ++ changes_among ks before after
one_change key ks before after old new at there = by (same_value old new) refl
  where
    by : (b : Bool) → same_value old new ≡ b → changes_among (key ∷ ks) before after ≡ change_between key old new ++ changes_among ks before after
    by true is =
        same_first key ks before after old new at there is
        ∙ sym (ap (λ b. (if b then [] else record { key = key; value = new } ∷ []) ++ changes_among ks before after) is)
    by false is =
        changed_first key ks before after old new at there is
        ∙ sym (ap (λ b. (if b then [] else record { key = key; value = new } ∷ []) ++ changes_among ks before after) is)

-- both tables have the key
both_come : (first next : Text × Text) (before after : Table) → IsAscending (first ∷ before) → IsAscending (next ∷ after) → text_cmp first.0 next.0 ≡ Equal →
    changes_of (first ∷ before) (next ∷ after) ≡ change_of_both first next ++ changes_of before after
both_come first next before after up other tie =
    let one : first.0 ≡ next.0 = equal_by_tie first.0 next.0 tie in
    let both : merged (first ∷ before) (next ∷ after) ≡ next ∷ merged before after =
    merged_stepwise first next before after up other ∙ ap (λ o. begins_merged o first before next after) tie in
    let ascends : IsAscending (next ∷ merged before after) = subst IsAscending both (ascending-merged (first ∷ before) (next ∷ after) up) in
    ap (λ table. changes_among (keys table) (first ∷ before) (next ∷ after)) both
    ∙ one_change next.0 (keys (merged before after)) (first ∷ before) (next ∷ after) (Some first.1) (Some next.1)
    (value_at_here next.0 first before (same_by_equal next.0 first.0 (sym one))) (value_at_here next.0 next after (same_by_equal next.0 next.0 refl))
    ∙ ap (λ rest. change_of_both first next ++ rest)
    (changed_alike (keys (merged before after)) (first ∷ before) (next ∷ after) before after
    (λ key h. value_above first before key (subst (λ k. text_cmp k key ≡ Less) (sym one) (above_first next (merged before after) ascends key h)))
    (λ key h. value_above next after key (above_first next (merged before after) ascends key h)))

-- the first change between two tables
pub changes_stepwise : (first next : Text × Text) (before after : Table) → IsAscending (first ∷ before) → IsAscending (next ∷ after) →
    changes_of (first ∷ before) (next ∷ after) ≡ begins_changes (text_cmp first.0 next.0) first before next after
changes_stepwise first next before after up other = by (text_cmp first.0 next.0) refl
  where
    by : (o : Ordering) → text_cmp first.0 next.0 ≡ o → changes_of (first ∷ before) (next ∷ after) ≡ begins_changes o first before next after
    by Less e = gone_comes first next before after up other e
    by Equal e = both_come first next before after up other e
    by Greater e = new_comes first next before after up other e

-- ---- one table alone

-- all pairs have gone where nothing comes
pub changes_to_nothing : (before : Table) → IsAscending before → changes_of before [] ≡ map gone_pair before
changes_to_nothing [] up = refl
changes_to_nothing (first ∷ before) up =
    changed_first first.0 (keys before) (first ∷ before) [] (Some first.1) None (value_at_here first.0 first before (same_by_equal first.0 first.0 refl)) refl refl
    ∙ ap (λ rest. gone_pair first ∷ rest)
    (changed_alike (keys before) (first ∷ before) [] before [] (λ key h. value_above first before key (above_first first before up key h)) (λ key h. refl)
    ∙ changes_to_nothing before (ascending-tail first before up))

-- the changes from nothing are among the keys of the table
from_nothing : (after : Table) → IsAscending after → changes_among (keys after) [] after ≡ map new_pair after
from_nothing [] up = refl
from_nothing (next ∷ after) up =
    changed_first next.0 (keys after) [] (next ∷ after) None (Some next.1) refl (value_at_here next.0 next after (same_by_equal next.0 next.0 refl)) refl
    ∙ ap (λ rest. new_pair next ∷ rest)
    (changed_alike (keys after) [] (next ∷ after) [] after (λ key h. refl) (λ key h. value_above next after key (above_first next after up key h))
    ∙ from_nothing after (ascending-tail next after up))

-- all pairs have come where nothing was
pub changes_from_nothing : (after : Table) → IsAscending after → changes_of [] after ≡ map new_pair after
changes_from_nothing after up = ap (λ table. changes_among (keys table) [] after) (merged_into_nothing after up) ∙ from_nothing after up

-- ---- tables at some keys

-- what a table has at a key, as a table
abbrev alone : Text → Option Text → Table
alone key None = []
alone key (Some value) = (key, value) ∷ []

-- its keys ascend
ascending-alone : (key : Text) (o : Option Text) → IsAscending (alone key o)
ascending-alone key None = refl
ascending-alone key (Some value) = refl

-- at another key it has nothing
value_at-alone : (q key : Text) (o : Option Text) → same q key ≡ false → value_at q (alone key o) ≡ None
value_at-alone q key None other = refl
value_at-alone q key (Some value) other = value_at_later q (key, value) [] other

-- at its key it has what it is of
value_at-key_alone : (key : Text) (o : Option Text) → value_at key (alone key o) ≡ o
value_at-key_alone key None = refl
value_at-key_alone key (Some value) = value_at_here key (key, value) [] (same_by_equal key key refl)

-- in the range of just a key stands what the table has there
just_alone : (key : Text) (table : Table) → IsAscending table → pairs_within (just key) table ≡ alone key (value_at key table)
just_alone key table up =
    same_tables (pairs_within (just key) table) (alone key (value_at key table)) (ascending-pairs_within (just key) table up) (ascending-alone key (value_at key table))
    (λ q. value_at-pairs_within (just key) q table ∙ ap (λ b. cond b (value_at q table) None) (within-just key q) ∙ by q (same q key) refl)
  where
    by : (q : Text) (b : Bool) → same q key ≡ b → cond (same key q) (value_at q table) None ≡ value_at q (alone key (value_at key table))
    by q true is =
        let one : q ≡ key = equal_by_same q key is in
        ap (λ b. cond b (value_at q table) None) (same_by_equal key q (sym one)) ∙ ap (λ k. value_at k table) one
        ∙ sym (value_at-key_alone key (value_at key table)) ∙ ap (λ k. value_at k (alone key (value_at key table))) (sym one)
    by q false is = ap (λ b. cond b (value_at q table) None) (apart_back q key is) ∙ sym (value_at-alone q key (value_at key table) is)

-- the pairs at keys above a key are above it
above_keys : (x : Text) (ks : List Text) (table : Table) → IsAscending table → AllByRecursion (λ key. text_cmp x key ≡ Less) ks → below_all text_cmp x (pairs_at ks table) ≡ true
above_keys x [] table up all = refl
above_keys x (key ∷ ks) table up all =
    ap (λ first. below_all text_cmp x (first ++ pairs_at ks table)) (just_alone key table up) ∙ by (value_at key table) (above_keys x ks table up all.1)
  where
    by : (o : Option Text) → below_all text_cmp x (pairs_at ks table) ≡ true → below_all text_cmp x (alone key o ++ pairs_at ks table) ≡ true
    by None rest = rest
    by (Some value) rest = and_from (is_lt (text_cmp x key)) (below_all text_cmp x (pairs_at ks table)) (ap is_lt all.0) rest

-- the pairs at ascending keys ascend
pub ascending-pairs_at : (ks : List Text) (table : Table) → IsStrictlySortedBy text_cmp ks → IsAscending table → IsAscending (pairs_at ks table)
unfolding IsStrictlySortedBy
ascending-pairs_at [] table rise up = refl
ascending-pairs_at (key ∷ ks) table rise up =
    ap (λ first. is_sorted text_cmp (first ++ pairs_at ks table)) (just_alone key table up) ∙ by (value_at key table) (above_keys key ks table up rise.0) (ascending-pairs_at ks table rise.1 up)
  where
    by : (o : Option Text) → below_all text_cmp key (pairs_at ks table) ≡ true → IsAscending (pairs_at ks table) → IsAscending (alone key o ++ pairs_at ks table)
    by None above rest = rest
    by (Some value) above rest = and_from (below_all text_cmp key (pairs_at ks table)) (is_sorted text_cmp (pairs_at ks table)) above rest

-- a first key that stands in one table or in both, below all others, comes with its change
first_change : (key : Text) (old new : Option Text) (before after : Table) → ((value : Text) → IsAscending ((key, value) ∷ before)) → ((value : Text) → IsAscending ((key, value) ∷ after)) →
    changes_of (alone key old ++ before) (alone key new ++ after) ≡ change_between key old new ++ changes_of before after
first_change key None None before after up other = refl
first_change key None (Some value) [] after up other =
    changes_from_nothing ((key, value) ∷ after) (other value) ∙ ap (λ rest. new_pair (key, value) ∷ rest) (sym (changes_from_nothing after (ascending-tail (key, value) after (other value))))
first_change key None (Some value) (first ∷ before) after up other =
    new_comes first (key, value) before after (ascending-tail (key, value) (first ∷ before) (up value)) (other value)
    (text_total.antisymm first.0 key ∙ ap ordering_reverse (above_first (key, value) (first ∷ before) (up value) first.0 (inl refl)))
first_change key (Some value) None before [] up other =
    changes_to_nothing ((key, value) ∷ before) (up value) ∙ ap (λ rest. gone_pair (key, value) ∷ rest) (sym (changes_to_nothing before (ascending-tail (key, value) before (up value))))
first_change key (Some value) None before (next ∷ after) up other =
    gone_comes (key, value) next before after (up value) (ascending-tail (key, value) (next ∷ after) (other value)) (above_first (key, value) (next ∷ after) (other value) next.0 (inl refl))
first_change key (Some first) (Some next) before after up other = both_come (key, first) (key, next) before after (up first) (other next) (tie_itself key)

-- the changes between what two tables have at ascending keys are those of the tables among these
pub changes_at_keys : (ks : List Text) (before after : Table) → IsStrictlySortedBy text_cmp ks → IsAscending before → IsAscending after → changes_of (pairs_at ks before) (pairs_at ks after) ≡ changes_among ks before after
unfolding IsStrictlySortedBy
changes_at_keys [] before after rise up other = refl
changes_at_keys (key ∷ ks) before after rise up other =
    (λ i. changes_of (just_alone key before up i ++ pairs_at ks before) (just_alone key after other i ++ pairs_at ks after))
    ∙ first_change key (value_at key before) (value_at key after) (pairs_at ks before) (pairs_at ks after)
    (behind (pairs_at ks before) (above_keys key ks before up rise.0) (ascending-pairs_at ks before rise.1 up))
    (behind (pairs_at ks after) (above_keys key ks after other rise.0) (ascending-pairs_at ks after rise.1 other))
    ∙ ap (λ rest. change_between key (value_at key before) (value_at key after) ++ rest) (changes_at_keys ks before after rise.1 up other)
    ∙ sym (one_change key ks before after (value_at key before) (value_at key after) refl refl)
  where
    behind : (table : Table) → below_all text_cmp key table ≡ true → IsAscending table → (value : Text) → IsAscending ((key, value) ∷ table)
    behind table above ascends value = and_from (below_all text_cmp key table) (is_sorted text_cmp table) above ascends

-- ---- what is left of two lists

-- the next change between what is left of two tables
next_change : (o : Ordering) (before after : Table) (i k : ℕ) (one two : Text × Text) → IsAscending before → IsAscending after → i < length before → k < length after →
    one ≡ get_or before i one → two ≡ get_or after k two → text_cmp one.0 two.0 ≡ o →
    changes_of (drop i before) (drop k after) ≡ begins_changes o one (drop (i + 1) before) two (drop (k + 1) after)
next_change o before after i k one two up other less short is are e =
    let left : drop i before ≡ one ∷ drop (i + 1) before = drop_more before i one less ∙ ap (λ x. x ∷ drop (i + 1) before) (sym is) in
    let right : drop k after ≡ two ∷ drop (k + 1) after = drop_more after k two short ∙ ap (λ x. x ∷ drop (k + 1) after) (sym are) in
    (λ j. changes_of (left j) (right j))
    ∙ changes_stepwise one two (drop (i + 1) before) (drop (k + 1) after) (subst IsAscending left (ascends-drop i before up)) (subst IsAscending right (ascends-drop k after other))
    ∙ ap (λ x. begins_changes x one (drop (i + 1) before) two (drop (k + 1) after)) e

-- changes more, with what is left
pushed : (done now rest whole more : List Change) → more ≡ now ++ rest → done ++ more ≡ whole → (done ++ now) ++ rest ≡ whole
pushed done now rest whole more next so_far = append_assoc done now rest ∙ ap (λ t. done ++ t) (sym next) ∙ so_far

-- the lesser pair is of the first list
pub step_gone : (before after : Table) (done : List Change) (i k : ℕ) (one two : Text × Text) → IsAscending before → IsAscending after → i < length before → k < length after →
    one ≡ get_or before i one → two ≡ get_or after k two → text_cmp one.0 two.0 ≡ Less → done ++ changes_of (drop i before) (drop k after) ≡ changes_of before after →
    (done ++ gone_pair one ∷ []) ++ changes_of (drop (i + 1) before) (drop k after) ≡ changes_of before after
step_gone before after done i k one two up other less short is are e so_far =
    let right : drop k after ≡ two ∷ drop (k + 1) after = drop_more after k two short ∙ ap (λ x. x ∷ drop (k + 1) after) (sym are) in
    ap (λ t. (done ++ gone_pair one ∷ []) ++ changes_of (drop (i + 1) before) t) right
    ∙ pushed done (gone_pair one ∷ []) (changes_of (drop (i + 1) before) (two ∷ drop (k + 1) after)) (changes_of before after) (changes_of (drop i before) (drop k after))
    (next_change Less before after i k one two up other less short is are e) so_far

-- it is of the other list
pub step_new : (before after : Table) (done : List Change) (i k : ℕ) (one two : Text × Text) → IsAscending before → IsAscending after → i < length before → k < length after →
    one ≡ get_or before i one → two ≡ get_or after k two → text_cmp one.0 two.0 ≡ Greater → done ++ changes_of (drop i before) (drop k after) ≡ changes_of before after →
    (done ++ new_pair two ∷ []) ++ changes_of (drop i before) (drop (k + 1) after) ≡ changes_of before after
step_new before after done i k one two up other less short is are e so_far =
    let left : drop i before ≡ one ∷ drop (i + 1) before = drop_more before i one less ∙ ap (λ x. x ∷ drop (i + 1) before) (sym is) in
    ap (λ t. (done ++ new_pair two ∷ []) ++ changes_of t (drop (k + 1) after)) left
    ∙ pushed done (new_pair two ∷ []) (changes_of (one ∷ drop (i + 1) before) (drop (k + 1) after)) (changes_of before after) (changes_of (drop i before) (drop k after))
    (next_change Greater before after i k one two up other less short is are e) so_far

-- both lists have the key
pub step_both : (before after : Table) (done : List Change) (i k : ℕ) (one two : Text × Text) → IsAscending before → IsAscending after → i < length before → k < length after →
    one ≡ get_or before i one → two ≡ get_or after k two → text_cmp one.0 two.0 ≡ Equal → done ++ changes_of (drop i before) (drop k after) ≡ changes_of before after →
    (done ++ change_of_both one two) ++ changes_of (drop (i + 1) before) (drop (k + 1) after) ≡ changes_of before after
step_both before after done i k one two up other less short is are e so_far =
    pushed done (change_of_both one two) (changes_of (drop (i + 1) before) (drop (k + 1) after)) (changes_of before after) (changes_of (drop i before) (drop k after))
    (next_change Equal before after i k one two up other less short is are e) so_far

-- where nothing is left of one list, the rest of the other has gone or come
pub rest_changes : (before after : Table) (done : List Change) (i k : ℕ) → IsAscending before → IsAscending after → done ++ changes_of (drop i before) (drop k after) ≡ changes_of before after →
    (length before ≤ i) ⊎ (length after ≤ k) → (done ++ map gone_pair (drop i before)) ++ map new_pair (drop k after) ≡ changes_of before after
rest_changes before after done i k up other so_far (inl past) =
    let none : drop i before ≡ [] = drop_all i before past in
    ap (λ t. (done ++ map gone_pair t) ++ map new_pair (drop k after)) none ∙ ap (λ t. t ++ map new_pair (drop k after)) (append-nil done)
    ∙ ap (λ t. done ++ t) (sym (changes_from_nothing (drop k after) (ascends-drop k after other)))
    ∙ ap (λ t. done ++ changes_of t (drop k after)) (sym none) ∙ so_far
rest_changes before after done i k up other so_far (inr past) =
    let none : drop k after ≡ [] = drop_all k after past in
    ap (λ t. (done ++ map gone_pair (drop i before)) ++ map new_pair t) none ∙ append-nil (done ++ map gone_pair (drop i before))
    ∙ ap (λ t. done ++ t) (sym (changes_to_nothing (drop i before) (ascends-drop i before up)))
    ∙ ap (λ t. done ++ changes_of (drop i before) t) (sym none) ∙ so_far
