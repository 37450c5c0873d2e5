-- Reading base pairs after some entries.
use Rattle.std.proofs.Common.{◌≡◌, ◌==◌, ℕ, zero, suc, ◌+◌, ◌-◌, ◌%◌, ◌≤◌, ◌⊎◌, inl, inr, true, false, cond, not, List, [], ◌∷◌, ◌++◌, length, map, take, drop, Contains, None, refl, sym, ap, ◌∙◌, subst, arith, Bool, Result, Ok, Err, OnOk, OnErr}
use Rattle.std.specs.List.{AllByRecursion}
use Rattle.std.proofs.lemmas.Bool.{false≢true}
use Rattle.std.proofs.lemmas.List.{take_all, take-append-drop, length-drop, length-map}
use Rattle.semantics.specs.Texts.{Text, Table, value_at, is_range, Range, within, pairs_within, pairs_where}
use Rattle.semantics.specs.Histories.{Entry, History, IsPrefix, joins_of, changed_at, base_of, is_computed}
use Rattle.semantics.specs.States.{below}
use Rattle.semantics.specs.StateLaws.{DeclaresJoins}
use Rattle.semantics.proofs.BaseLemmas.{value_at-visible}
use Rattle.semantics.proofs.StateLemmas.{below-zero}
use Rattle.semantics.proofs.MemberLemmas.{contains_from_has}
use Rattle.growing_history.specs.Changes.{Same, is_bare, IsBareThroughout, changed_keys}
use Rattle.growing_history.specs.Entered.{HasEntered}
use Rattle.growing_history.proofs.ChangeLemmas.{changed_keys_are_written, changed_keys_ascend}
use Rattle.growing_history.proofs.ElementLemmas.{all_from_has}
use Rattle.growing_history.proofs.EnteredLemmas.{has_entered_taken, declares_joins}
use Rattle.growing_history.proofs.PrefixLemmas.{take_prefix}
use Rattle.growing_history.proofs.UnchangedLemmas.{bare_at, bare_is_base, base_kept, unchanged_is_same}
use Rattle.layering.proofs.StandingLemmas.{joins_stay_since}
use Rattle.layering.proofs.LayerLemmas.{visible_within}
use Rattle.join_eval.specs.declared.between.Between.{Between}
use Rattle.join_eval.specs.declared.between.Between.TheVariants.{Steady, Bare, Other}
use Rattle.join_eval.specs.declared.reading.Changed.{Changed}
use Rattle.join_eval.specs.declared.reading.Changed.TheVariants.{Keys, All}
use Rattle.join_eval.specs.Answers.{AnswersChanges, ListsChanges, ListsExactly, MayNotBeKnown, TellsBetween}
use Rattle.growing_history.specs.StateChanges.{Change, change_to}
use Rattle.base_reader.specs.Hiding.{HidesNoPair, HidesNoValue, without_hidden}
use Rattle.base_reader.specs.Reaching.{AnswersKeys, is_known}
use Rattle.base_versions.specs.Kept.{Kept, StandsFor, HasEnteredInPart}
use Rattle.base_versions.specs.Valued.{base_changes}

-- ---- the first entries

take_nothing : (m : ℕ) → take {A = Entry} m [] ≡ []
take_nothing zero = refl
take_nothing (suc m) = refl

-- the first entries, and the first of those that follow
take_then : (n k : ℕ) (xs : History) → take n xs ++ take k (drop n xs) ≡ take (n + k) xs
take_then zero k xs = ap (λ m. take m xs) (let e : k ≡ 0 + k = omega arith in e)
take_then (suc n) k [] = take_nothing k ∙ sym (take_nothing (suc n + k))
take_then (suc n) k (x ∷ xs) = ap (λ ys. x ∷ ys) (take_then n k xs) ∙ ap (λ m. take m (x ∷ xs)) (let e : suc (n + k) ≡ suc n + k = omega arith in e)

-- ---- the pairs that no output hides

-- where the base pairs of a range were found, and those are left that no output hides by the joins of a longer list, these are what is visible
pub visible_read : (h more : History) (p rank : ℕ) (range : Range) (found left : Table) → p ≤ length h → IsPrefix h more → rank ≤ 0 → found ≡ pairs_within range (base_of (take p h)) →
    left ≡ pairs_where (λ key. not (is_computed (joins_of (take p more)) key)) found → left ≡ pairs_within range (below (take p h) rank)
visible_read h more p rank range found left inside begins none is hidden =
    hidden
    ∙ (λ i. pairs_where (λ key. not (is_computed (joins_of (take_prefix p h more inside begins i)) key)) (is i))
    ∙ sym (visible_within (take p h) range)
    ∙ ap (pairs_within range) (sym (below-zero (take p h)))
    ∙ ap (λ r. pairs_within range (below (take p h) r)) (let e : 0 ≡ rank = omega arith in e)

-- in a bare range nothing is hidden
pub bare_read : (h : History) (p : ℕ) (range : Range) (found left : Table) → HasEntered h → is_range range.low range.high ≡ true → is_bare range (joins_of (take p h)) ≡ true → found ≡ pairs_within range (base_of (take p h)) →
    left ≡ pairs_within range (below (take p h) 0) → length left ≡ length found
bare_read h p range found left entered range_is bare is left_is =
    ap length (left_is ∙ bare_is_base (take p h) 0 range (declares_joins (take p h) (has_entered_taken p h entered)) range_is bare ∙ sym is)

-- joins of a longer list hide no pair of a bare range
pub no_pair_hidden : (h more : History) (p : ℕ) (range : Range) (found : Table) → p ≤ length h → IsPrefix h more → HasEntered h → is_range range.low range.high ≡ true → found ≡ pairs_within range (base_of (take p h)) →
    HidesNoPair (joins_of (take p more)) range found
no_pair_hidden h more p range found inside begins entered range_is is bare =
    let same : take p h ≡ take p more = sym (take_prefix p h more inside begins) in
    is
    ∙ sym (bare_is_base (take p h) 0 range (declares_joins (take p h) (has_entered_taken p h entered)) range_is (ap (λ k. is_bare range (joins_of k)) same ∙ bare))
    ∙ ap (pairs_within range) (below-zero (take p h))
    ∙ visible_within (take p h) range
    ∙ (λ i. pairs_where (λ key. not (is_computed (joins_of (same i)) key)) (sym is i))

-- what is left of pairs is no more
pub left_fewer : (test : Text → Bool) (table : Table) → length (pairs_where test table) ≤ length table
left_fewer test [] = omega arith
left_fewer test (e ∷ es) = by (test e.0) (left_fewer test es)
  where
    by : (b : Bool) → length (pairs_where test es) ≤ length es → length (cond b (e ∷ pairs_where test es) (pairs_where test es)) ≤ length (e ∷ es)
    by true h = omega (arith, h)
    by false h = omega (arith, h)

-- ---- what is the same

-- at a key that no entry between writes the same is visible, where no join is declared or dropped between
visible_same : (h : History) (q p : ℕ) (range : Range) (key : Text) → q ≤ p → changed_at (take p h) ≤ q → within range key ≡ true → (Contains (changed_keys q p range h) key → ⊥) → Same h q p 0 key
visible_same h q p range key order steady inside unlisted x up down =
    let stay = joins_stay_since h q p steady in
    let at : (y : ℕ) → q ≤ y → y ≤ p → value_at key (below (take y h) 0) ≡ cond (not (is_computed (joins_of (take q h)) key)) (value_at key (base_of (take y h))) None = λ y low high.
    ap (value_at key) (below-zero (take y h)) ∙ value_at-visible key (take y h) ∙ ap (λ js. cond (not (is_computed js key)) (value_at key (base_of (take y h))) None) (stay y low high) in
    let e : q + (x - q) ≡ x = omega arith in
    at x up down
    ∙ ap (λ o. cond (not (is_computed (joins_of (take q h)) key)) o None)
    (ap (λ y. value_at key (base_of (take y h))) (sym e)
    ∙ base_kept h q (x - q) key (λ y low high writes. unlisted ((changed_keys_are_written q p range h key).1 (inside, (y, low, omega arith, writes)))))
    ∙ sym (at q (omega arith) order)

-- the changed keys of a range lie in it
changed_inside : (h : History) (q p : ℕ) (range : Range) → AllByRecursion (λ key. within range key ≡ true) (changed_keys q p range h)
changed_inside h q p range = all_from_has (λ key. within range key ≡ true) (changed_keys q p range h) (λ key has. ((changed_keys_are_written q p range h key).0 (contains_from_has (changed_keys q p range h) key has)).0)

-- the changed keys list what changed below a rank where the same stands below it at each key that is not among them
lists : (h : History) (q p rank : ℕ) (range : Range) → ((key : Text) → within range key ≡ true → (Contains (changed_keys q p range h) key → ⊥) → Same h q p rank key) → ListsChanges h q p rank range (changed_keys q p range h)
lists h q p rank range same = record {
  ascend = changed_keys_ascend q p range h;
  inside = changed_inside h q p range;
  complete = same;
}

-- they do at rank 0 where no join is declared or dropped between, and over a range that is bare throughout
pub changed_listed : (h : History) (q p rank : ℕ) (range : Range) (keys : List Text) → HasEntered h → is_range range.low range.high ≡ true → q ≤ p → rank ≤ 0 → keys ≡ changed_keys q p range h →
    (changed_at (take p h) ≤ q) ⊎ IsBareThroughout h q p range → ListsChanges h q p rank range keys
changed_listed h q p rank range keys entered ok order none is (inl steady) =
    let zero_rank : 0 ≡ rank = omega arith in
    subst (ListsChanges h q p rank range) (sym is)
    (subst (λ r. ListsChanges h q p r range (changed_keys q p range h)) zero_rank (lists h q p 0 range (λ key inside unlisted. visible_same h q p range key order steady inside unlisted)))
changed_listed h q p rank range keys entered ok order none is (inr bare) =
    subst (ListsChanges h q p rank range) (sym is)
    (lists h q p rank range (λ key inside unlisted. unchanged_is_same h q p rank range key (λ x. declares_joins (take x h) (has_entered_taken x h entered)) ok bare inside unlisted))

-- what is answered of them is right
pub changed_answered : (h : History) (q p rank : ℕ) (range : Range) (keys : List Text) (joins : Between) (answer : Changed) → HasEntered h → is_range range.low range.high ≡ true → q ≤ p → rank ≤ 0 → keys ≡ changed_keys q p range h →
    TellsBetween h q p range joins → AnswersKeys keys joins answer → AnswersChanges h q p rank range answer
changed_answered h q p rank range keys Steady (Keys listed) entered ok order none is said answers = changed_listed h q p rank range listed.items entered ok order none (answers ∙ is) (inl said)
changed_answered h q p rank range keys Steady All entered ok order none is said answers = absurd answers
changed_answered h q p rank range keys Bare (Keys listed) entered ok order none is said answers = changed_listed h q p rank range listed.items entered ok order none (answers ∙ is) (inr said)
changed_answered h q p rank range keys Bare All entered ok order none is said answers = absurd answers
changed_answered h q p rank range keys Other (Keys listed) entered ok order none is said answers = absurd answers
changed_answered h q p rank range keys Other All entered ok order none is said answers = record { computed = said.1; why = inl said.0 }

-- over a range that is bare throughout just these are listed
pub changed_of_bare : (h : History) (q p : ℕ) (range : Range) (keys named : List Text) (joins : Between) (answer : Changed) → keys ≡ named → TellsBetween h q p range joins → IsBareThroughout h q p range → AnswersKeys keys joins answer → ListsExactly named answer
changed_of_bare h q p range keys named Steady answer is said bare answers = subst (λ ks. ListsExactly ks answer) is answers
changed_of_bare h q p range keys named Bare answer is said bare answers = subst (λ ks. ListsExactly ks answer) is answers
changed_of_bare h q p range keys named Other answer is said bare answers = absurd (said.1 bare)

-- ---- what is seen at changed keys

-- what is seen at a key at rank 0
seen_at : (h : History) (p rank : ℕ) (key : Text) → rank ≤ 0 → cond (not (is_computed (joins_of (take p h)) key)) (value_at key (base_of (take p h))) None ≡ value_at key (below (take p h) rank)
seen_at h p rank key none =
    sym (ap (value_at key) (below-zero (take p h)) ∙ value_at-visible key (take p h)) ∙ ap (λ r. value_at key (below (take p h) r)) (let e : 0 ≡ rank = omega arith in e)

-- base values without those that outputs hide are what is seen
hidden_seen : (h : History) (p rank : ℕ) (keys : List Text) → rank ≤ 0 → map (without_hidden (joins_of (take p h))) (map (change_to (base_of (take p h))) keys) ≡ map (change_to (below (take p h) rank)) keys
hidden_seen h p rank [] none = refl
hidden_seen h p rank (k ∷ ks) none = λ i. record { key = k; value = seen_at h p rank k none i } ∷ hidden_seen h p rank ks none i

-- so it is of the changed keys, where the joins are those of a longer list
pub changes_seen : (h more : History) (q p rank : ℕ) (range : Range) (found left : List Change) → p ≤ length h → IsPrefix h more → rank ≤ 0 → found ≡ base_changes q p range h → left ≡ map (without_hidden (joins_of (take p more))) found →
    left ≡ map (change_to (below (take p h) rank)) (changed_keys q p range h)
changes_seen h more q p rank range found left inside begins none is hidden =
    hidden
    ∙ (λ i. map (without_hidden (joins_of (take_prefix p h more inside begins i))) (is i))
    ∙ hidden_seen h p rank (changed_keys q p range h) none

-- at keys of a bare range the base values are what is seen
bare_seen : (h : History) (range : Range) (keys : List Text) → DeclaresJoins h → is_range range.low range.high ≡ true → is_bare range (joins_of h) ≡ true → AllByRecursion (λ key. within range key ≡ true) keys →
    map (change_to (base_of h)) keys ≡ map (without_hidden (joins_of h)) (map (change_to (base_of h)) keys)
bare_seen h range [] declares range_is bare all = refl
bare_seen h range (k ∷ ks) declares range_is bare all =
    let seen : value_at k (base_of h) ≡ cond (not (is_computed (joins_of h) k)) (value_at k (base_of h)) None =
    sym (bare_at h 0 range k declares range_is bare all.0) ∙ ap (value_at k) (below-zero h) ∙ value_at-visible k h in
    λ i. record { key = k; value = seen i } ∷ bare_seen h range ks declares range_is bare all.1 i

-- joins of a longer list hide no value at the changed keys of a bare range
pub no_value_hidden : (h more : History) (q p : ℕ) (range : Range) (found : List Change) → p ≤ length h → IsPrefix h more → HasEntered h → is_range range.low range.high ≡ true → found ≡ base_changes q p range h →
    HidesNoValue (joins_of (take p more)) range found
no_value_hidden h more q p range found inside begins entered range_is is bare =
    let same : take p h ≡ take p more = sym (take_prefix p h more inside begins) in
    is
    ∙ bare_seen (take p h) range (changed_keys q p range h) (declares_joins (take p h) (has_entered_taken p h entered)) range_is (ap (λ k. is_bare range (joins_of k)) same ∙ bare) (changed_inside h q p range)
    ∙ (λ i. map (without_hidden (joins_of (same i))) (sym is i))

-- where it is known which keys changed, no join is declared or dropped between, or the range is bare throughout
pub known_since : (h : History) (q p : ℕ) (range : Range) (joins : Between) → TellsBetween h q p range joins → is_known joins ≡ true → (changed_at (take p h) ≤ q) ⊎ IsBareThroughout h q p range
known_since h q p range Steady said known = inl said
known_since h q p range Bare said known = inr said
known_since h q p range Other said known = absurd (false≢true known)

-- and where it is not, it may not be
pub unknown_since : (h : History) (q p rank : ℕ) (range : Range) (joins : Between) → TellsBetween h q p range joins → is_known joins ≡ false → MayNotBeKnown h q p rank range
unknown_since h q p rank range Steady said unknown = absurd (false≢true (sym unknown))
unknown_since h q p rank range Bare said unknown = absurd (false≢true (sym unknown))
unknown_since h q p rank range Other said unknown = record { computed = said.1; why = inl said.0 }

-- there are as many changes as keys
pub base_changes_count : (h : History) (q p : ℕ) (range : Range) (found : List Change) → found ≡ base_changes q p range h → length found ≡ length (changed_keys q p range h)
base_changes_count h q p range found is = ap length is ∙ length-map (changed_keys q p range h) (change_to (base_of (take p h)))

-- ---- versions that catch up

-- once the versions have taken the entries that follow their position, or some first ones of these, they stand for the first entries up to their position
pub caught_up : {E : Type 0} (r : Result (Unit {0}) E) (old new : Kept) (es part : History) → part ≡ drop old.position es → old.position ≤ length es → StandsFor 0 old (take old.position es) →
    OnOk r ((start : ℕ) (h : History) → StandsFor start old h → StandsFor start new (h ++ part)) → OnOk r (new.position ≡ old.position + length part) → OnErr r (HasEnteredInPart old part new) →
    StandsFor 0 new (take new.position es)
caught_up (Ok u) old new es part is within stands ok position err =
    let whole : take old.position es ++ part ≡ es = ap (λ xs. take old.position es ++ xs) is ∙ take-append-drop old.position es in
    let long = ap length is ∙ length-drop old.position es in
    subst (StandsFor 0 new) (whole ∙ sym (take_all new.position es (omega (arith, long, position, within)))) (ok 0 (take old.position es) stands)
caught_up (Err e) old new es part is within stands ok position err =
    subst (StandsFor 0 new)
    (ap (λ xs. take old.position es ++ take err.count xs) is ∙ take_then old.position err.count es ∙ ap (λ n. take n es) (sym err.position))
    (err.history 0 (take old.position es) stands)

-- versions that have caught up stand for all entries
pub stands_for_all : (h es : History) (base : Kept) → es ≡ h → base.position ≡ length es → StandsFor 0 base (take base.position es) → StandsFor 0 base h
stands_for_all h es base is position stands = subst (StandsFor 0 base) (take_all base.position es (omega (arith, position)) ∙ is) stands
