-- What a reader says of the ranges of needs, one after another, and what is left once the keys are in order.
use Rattle.std.proofs.Common.{◌≡◌, ◌↔◌, ◌⊎◌, ℕ, ◌+◌, ◌<◌, ◌≤◌, List, [], ◌∷◌, ◌++◌, length, take, filter, flat_map, get_or, true, Contains, Option, Some, None, IfSome, option_copied, sym, ap, ◌∙◌, subst, ⊎_elim, arith, Vec, Global}
use Rattle.std.specs.List.{list_any, AllByRecursion}
use Rattle.std.specs.Borrow.{Bor}
use Rattle.std.specs.List.Sorted.{IsStrictlySortedBy}
use Rattle.std.proofs.lemmas.List.Sums.{sum_by_more}
use Rattle.std.proofs.lemmas.List.Kept.{IsStrictlySortedBy-filter}
use Rattle.semantics.specs.Texts.{Text, Table, Range, text_cmp, value_at, within}
use Rattle.semantics.specs.Histories.{History, IsPrefix}
use Rattle.semantics.proofs.MemberLemmas.{Has, has_from_contains, contains_from_has, has_append_left, has_append_right, has_append_cases, has_filter, has_filtered, has_flat_map, has_flat_mapped, any_from_has}
use Rattle.growing_history.specs.Changes.{changed_keys, Same, IsBareThroughout}
use Rattle.growing_history.specs.ChangeLaws.{IsWrittenBetween}
use Rattle.growing_history.proofs.ElementLemmas.{all_from_has, has_of_all}
use Rattle.growing_history.proofs.EnteredLemmas.{all_more}
use Rattle.growing_history.proofs.ChangeLemmas.{changed_keys_ascend, changed_keys_are_written}
use Rattle.growing_history.proofs.SortedLemmas.{same_sorted}
use Rattle.growing_history.specs.StateChanges.{Change}
use Rattle.range_evaluation.specs.Trees.{Need}
use Rattle.kept_ranges.specs.SoundLaws.{AreReportedBetween}
use Rattle.join_eval.specs.declared.reading.Changes.{Changes}
use Rattle.join_eval.specs.declared.reading.Changes.TheVariants.{Listed, Unlisted}
use Rattle.join_eval.specs.Answers.{ListsChanges, HaveValues, TellsChanges, TellsExactly, change_keys}
use Rattle.range_state.specs.Asking.{LieInRanges, AreBareThroughout, IsQuiet, AreListed, ListsWritten, changed_count, asking_steps}
use Rattle.range_state.proofs.LongerLemmas.{same_before, changed_longer, bare_longer, quiet_before, quiet_longer}

-- ---- one answer after another

-- an element that was read is one of the list
pub has_read : {A : Type 0} (xs : List A) (i : ℕ) (x : A) → i < length xs → x ≡ get_or xs i x → Has xs x
has_read xs i x less is = has_from_contains xs x (i, less, sym is)

-- the keys of a need's range lie in the range of some need
pub inside_more : (needs : List Need) (told keys : List Text) (i : ℕ) (need : Need) → i < length needs → need ≡ get_or needs i need → AllByRecursion (λ key. within need.range key ≡ true) keys → LieInRanges needs told → LieInRanges needs (told ++ keys)
inside_more needs told keys i need less is inside so_far = all_from_has (λ key. list_any (λ n. within n.range key) needs ≡ true) (told ++ keys) (λ key h. ⊎_elim
    (λ (old : Has told key). has_of_all (λ k. list_any (λ n. within n.range k) needs ≡ true) told key so_far old)
    (λ (new : Has keys key). any_from_has (λ n. within n.range key) needs need (has_read needs i need less is) (has_of_all (λ k. within need.range k ≡ true) keys key inside new))
    (has_append_cases told keys key h))

-- keys that are added leave fewer to speak of
reported_more : (h : History) (q p rank : ℕ) (needs : List Need) (told more : List Text) → ((key : Text) → Has told key → Has more key) → AreReportedBetween h q p rank needs told → AreReportedBetween h q p rank needs more
reported_more h q p rank [] told more wider all = tt
reported_more h q p rank (need ∷ needs) told more wider all =
    (λ key inside out. all.0 key inside (λ there. out (contains_from_has more key (wider key (has_from_contains told key there)))), reported_more h q p rank needs told more wider all.1)

-- after one answer more, at each key of the ranges of the needs so far that is not told the same stands throughout
pub complete_more : (h here : History) (q p rank : ℕ) (needs : List Need) (told keys : List Text) (i : ℕ) (need : Need) → IsPrefix h here → p ≤ length h → q ≤ p → i < length needs → need ≡ get_or needs i need →
    ListsChanges here q p rank need.range keys → AreReportedBetween h q p rank (take i needs) told → AreReportedBetween h q p rank (take (i + 1) needs) (told ++ keys)
complete_more h here q p rank needs told keys i need prefix short order less is answer so_far =
    all_more (λ n. (k : Text) → within n.range k ≡ true → (Contains (told ++ keys) k → ⊥) → Same h q p rank k) needs i need less is
    (reported_more h q p rank (take i needs) told (told ++ keys) (λ key h. has_append_left told keys key h) so_far)
    (λ k inside out. same_before h here q p rank k prefix short order
    (answer.complete k inside (λ there. out (contains_from_has (told ++ keys) k (has_append_right told keys k (has_from_contains keys k there))))))

-- the steps to ask for one need more
pub asking_more : (h : History) (q p : ℕ) (needs : List Need) (i : ℕ) (need : Need) → i < length needs → need ≡ get_or needs i need → asking_steps q p h (take (i + 1) needs) ≡ asking_steps q p h (take i needs) + (1 + changed_count q p h need)
asking_more h q p needs i need less is = sum_by_more (λ n. 1 + changed_count q p h n) needs i need less ∙ ap (λ n. asking_steps q p h (take i needs) + (1 + changed_count q p h n)) (sym is)

-- ---- one answer

-- where the ranges of all needs are bare from q to p, so is that of the need that is read, over a list that has grown
pub bare_read : (h here : History) (q p : ℕ) (needs : List Need) (i : ℕ) (need : Need) (range : Range) → IsPrefix h here → p ≤ length h → i < length needs → need ≡ get_or needs i need → range ≡ need.range → AreBareThroughout h q p needs → IsBareThroughout here q p range
bare_read h here q p needs i need range prefix within less is same all =
    subst (IsBareThroughout here q p) (sym same) (bare_longer h here q p need.range prefix within (has_of_all (λ n. IsBareThroughout h q p n.range) needs need all (has_read needs i need less is)))

-- an answer that lists changes is not that any key may have changed
pub lists_no_all : {P : Type 0} (keys : List Text) (answer : Changes) → answer ≡ Unlisted → TellsExactly keys answer → P
lists_no_all keys answer is lists = absurd (subst (TellsExactly keys) is lists)

-- the keys of an answer of these changes are what changes in the range
pub lists_keys : (here : History) (q p rank : ℕ) (need : Need) (range : Range) (answer : Changes) (changes : Vec Change Global) → answer ≡ Listed changes → range ≡ need.range → TellsChanges here q p rank range answer → ListsChanges here q p rank need.range (change_keys changes.items)
lists_keys here q p rank need range answer changes is same answers = subst (λ r. ListsChanges here q p rank r (change_keys changes.items)) same (subst (TellsChanges here q p rank range) is answers)

-- and are exactly the changed keys where those are listed
pub lists_changed : (h here : History) (q p : ℕ) (need : Need) (range : Range) (answer : Changes) (changes : Vec Change Global) → IsPrefix h here → p ≤ length h → q ≤ p → answer ≡ Listed changes → range ≡ need.range → TellsExactly (changed_keys q p range here) answer →
    change_keys changes.items ≡ changed_keys q p need.range h
lists_changed h here q p need range answer changes prefix within order is same lists =
    subst (TellsExactly (changed_keys q p range here)) is lists ∙ ap (λ r. changed_keys q p r here) same ∙ changed_longer h here q p need.range prefix within order

-- the steps of one answer over a bare range
pub steps_changed : (h here : History) (q p : ℕ) (need : Need) (range : Range) (old new : ℕ) → IsPrefix h here → p ≤ length h → q ≤ p → range ≡ need.range → new ≡ old + 1 + length (changed_keys q p range here) → new ≡ old + (1 + changed_count q p h need)
steps_changed h here q p need range old new prefix within order same cost =
    let e : length (changed_keys q p range here) ≡ changed_count q p h need = ap (λ r. length (changed_keys q p r here)) same ∙ ap length (changed_longer h here q p need.range prefix within order) in
    omega arith

-- ---- a range in which nothing changes

-- it is answered by no keys
pub quiet_answer : (h : History) (q p rank : ℕ) (range : Range) (keys : List Text) → keys ≡ [] → IsQuiet h q p rank range → ListsChanges h q p rank range keys
unfolding IsStrictlySortedBy
quiet_answer h q p rank range keys none quiet = subst (ListsChanges h q p rank range) (sym none) (record { ascend = tt; inside = tt; complete = λ key inside out. quiet.same key inside })

-- and a range that is answered so is one
quiet_by : (h : History) (q p rank : ℕ) (range : Range) (keys : List Text) → keys ≡ [] → ListsChanges h q p rank range keys → (IsBareThroughout h q p range → keys ≡ changed_keys q p range h) → IsQuiet h q p rank range
quiet_by h q p rank range keys none lists exact = record {
  same = λ key inside. lists.complete key inside (λ there. has_from_contains [] key (subst (λ (ks : List Text). Contains ks key) none there));
  unwritten = λ bare. sym (exact bare) ∙ none;
}

-- the one that is known to be so is, where there is one
pub quiet_found : (h : History) (q p rank : ℕ) (quiet : Option Range) (range : Range) → quiet ≡ Some range → IfSome quiet (IsQuiet h q p rank) → IsQuiet h q p rank range
quiet_found h q p rank quiet range is known = subst (λ o. IfSome o (IsQuiet h q p rank)) is known

-- so it is over a longer history
pub quiet_on : (h here : History) (q p rank : ℕ) (quiet : Option (Bor Range)) → IsPrefix h here → p ≤ length h → q ≤ p → IfSome quiet (λ r. IsQuiet h q p rank r.now) → IfSome (option_copied quiet) (IsQuiet here q p rank)
quiet_on h here q p rank None prefix within order known = tt
quiet_on h here q p rank (Some r) prefix within order known = quiet_longer h here q p rank r.now prefix within order known

-- after an answer it is so still, or of the range that was answered
pub quiet_next : (h here : History) (q p rank : ℕ) (old new : Option (Bor Range)) (range : Range) (changes lent : List Change) → IsPrefix h here → p ≤ length h → q ≤ p → ListsChanges here q p rank range (change_keys changes) → (IsBareThroughout here q p range → change_keys changes ≡ changed_keys q p range here) →
    lent ≡ changes → (option_copied new ≡ option_copied old) ⊎ ((lent ≡ []) × (option_copied new ≡ Some range)) → IfSome old (λ r. IsQuiet h q p rank r.now) → IfSome new (λ r. IsQuiet h q p rank r.now)
quiet_next h here q p rank old new range changes lent prefix within order lists exact are next known =
    from_copied new (⊎_elim
    (λ e. subst (λ o. IfSome o (IsQuiet h q p rank)) (sym e) (to_copied old known))
    (λ w. subst (λ o. IfSome o (IsQuiet h q p rank)) (sym w.1) (quiet_before h here q p rank range prefix within order (quiet_by here q p rank range (change_keys changes) (ap change_keys (sym are ∙ w.0)) lists exact)))
    next)
  where
    to_copied : (o : Option (Bor Range)) → IfSome o (λ r. IsQuiet h q p rank r.now) → IfSome (option_copied o) (IsQuiet h q p rank)
    to_copied None is = tt
    to_copied (Some r) is = is

    from_copied : (o : Option (Bor Range)) → IfSome (option_copied o) (IsQuiet h q p rank) → IfSome o (λ r. IsQuiet h q p rank r.now)
    from_copied None is = tt
    from_copied (Some r) is = is

-- ---- the keys in order

-- the same keys in order lie in the same ranges
pub inside_merged : (needs : List Need) (told keys : List Text) → ((key : Text) → Contains keys key ↔ Contains told key) → LieInRanges needs told → LieInRanges needs keys
inside_merged needs told keys same all = all_from_has (λ key. list_any (λ n. within n.range key) needs ≡ true) keys (λ key h.
    has_of_all (λ k. list_any (λ n. within n.range k) needs ≡ true) told key all (has_from_contains told key ((same key).0 (contains_from_has keys key h))))

-- and tell as much
pub complete_merged : (h : History) (q p rank : ℕ) (needs : List Need) (told keys : List Text) → ((key : Text) → Contains keys key ↔ Contains told key) → AreReportedBetween h q p rank needs told → AreReportedBetween h q p rank needs keys
complete_merged h q p rank needs told keys same all = reported_more h q p rank needs told keys (λ key h. has_from_contains keys key ((same key).1 (contains_from_has told key h))) all

-- and changes that are among some with the values of a table have these too
pub values_merged : (table : Table) (told changes : List Change) → AllByRecursion (Contains told) changes → HaveValues table told → HaveValues table changes
values_merged table told changes among values = all_from_has (λ (c : Change). c.value ≡ value_at c.key table) changes (λ c h.
    has_of_all (λ (d : Change). d.value ≡ value_at d.key table) told c values (has_from_contains told c (has_of_all (Contains told) changes c among h)))

-- where the changed keys of each need's range are told and no others, those in a need's range are its changed keys
listed_one : (h : History) (q p : ℕ) (needs : List Need) (keys : List Text) (need : Need) → Has needs need → IsStrictlySortedBy text_cmp keys → ((key : Text) → Contains keys key ↔ Contains (flat_map (λ n. changed_keys q p n.range h) needs) key) → ListsWritten q p h keys need
listed_one h q p needs keys need has sorted same =
    let changed = λ (n : Need). changed_keys q p n.range h in
    let all = flat_map changed needs in
    same_sorted (filter (within need.range) keys) (changed need) (IsStrictlySortedBy-filter text_cmp (within need.range) keys sorted) (changed_keys_ascend q p need.range h)
    (λ key there.
    let found = has_filter (within need.range) keys key there in
    let told = has_flat_map changed needs key (has_from_contains all key ((same key).0 (contains_from_has keys key found.1))) in
    let written : IsWrittenBetween q p h key = ((changed_keys_are_written q p told.0.range h key).0 (contains_from_has (changed told.0) key told.2)).1 in
    has_from_contains (changed need) key ((changed_keys_are_written q p need.range h key).1 (found.0, written)))
    (λ key there.
    let inside : within need.range key ≡ true = ((changed_keys_are_written q p need.range h key).0 (contains_from_has (changed need) key there)).0 in
    has_filtered (within need.range) keys key inside (has_from_contains keys key ((same key).1 (contains_from_has all key (has_flat_mapped changed needs need key has there)))))

pub listed_merged : (h : History) (q p : ℕ) (needs : List Need) (keys : List Text) → IsStrictlySortedBy text_cmp keys → ((key : Text) → Contains keys key ↔ Contains (flat_map (λ n. changed_keys q p n.range h) needs) key) → AreListed q p h needs keys
listed_merged h q p needs keys sorted same = all_from_has (ListsWritten q p h keys) needs (λ need has. listed_one h q p needs keys need has sorted same)
