-- Reading one rank more.
use Rattle.std.proofs.Common.{◌≡◌, ℕ, ◌+◌, ◌-◌, ◌<◌, ◌≤◌, List, [], ◌∷◌, length, map, take, true, false, Contains, None, ◌⊎◌, inl, inr, refl, sym, ap, ◌∙◌, subst, arith}
use Rattle.std.specs.List.{AllByRecursion}
use Rattle.std.proofs.lemmas.Bool.{false≢true}
use Rattle.semantics.specs.Texts.{Text, Table, is_range, Range, within, pairs_within}
use Rattle.semantics.specs.Joins.{Join}
use Rattle.semantics.specs.Histories.{History, IsPrefix, DeclaredJoin, joins_of, changed_at}
use Rattle.semantics.specs.States.{below}
use Rattle.key_ranges.specs.Ranges.{is_open}
use Rattle.key_ranges.specs.Containing.{bind_range}
use Rattle.growing_history.specs.Changes.{Same, is_bare, IsBareThroughout}
use Rattle.growing_history.specs.Entered.{HasEntered}
use Rattle.growing_history.proofs.EnteredLemmas.{has_entered_taken, declares_joins}
use Rattle.growing_history.proofs.PrefixLemmas.{take_prefix}
use Rattle.semantics.proofs.OfRankLemmas.{all_at}
use Rattle.layering.specs.Reached.{reached, ReachesNoneBelow, with_parts}
use Rattle.layering.proofs.ReachLemmas.{bare_reaches_none, reaches_none_below_each, reached_stand}
use Rattle.layering.proofs.LayerLemmas.{below_next_within}
use Rattle.layering.proofs.StandingLemmas.{joins_stay_since}
use Rattle.layering.proofs.SameLemmas.{same_below_next_within, same_where_bare}
use Rattle.layering.specs.Standing.{SameOutput}
use Rattle.join_eval.specs.declared.reading.Changed.{Changed}
use Rattle.join_eval.specs.declared.reading.Changed.TheVariants.{Keys, All}
use Rattle.join_eval.specs.declared.reading.Changes.{Changes}
use Rattle.join_eval.specs.declared.reading.Changes.TheVariants.{Listed, Unlisted}
use Rattle.join_eval.specs.Answers.{AnswersChanges, ListsChanges, MayNotBeKnown, MeetsOutput, TellsChanges, change_keys}
use Rattle.key_ranges.proofs.OrderLemmas.{up_to_below}
use Rattle.std.proofs.lemmas.List.{take_all}
use Rattle.std.proofs.lemmas.Bool.{and_parts}
use Rattle.cell_slots.specs.Spending.{JoinsSpend}
use Rattle.rank_layers.specs.Telling.{AddsChanges, AddsTold, ListsAdded}

-- ---- the pairs

-- what stands below the next rank in a range, over two lists with the same first entries
pub exact_above : (h more : History) (p rank : ℕ) (range : Range) (all pairs : Table) → p ≤ length h → IsPrefix h more → HasEntered more → is_range range.low range.high ≡ true →
    pairs ≡ pairs_within range (below (take p h) rank) →
    all ≡ with_parts range (reached range rank (joins_of (take p more))) (below (take p more) rank) pairs →
    all ≡ pairs_within range (below (take p h) (rank + 1))
exact_above h more p rank range all pairs less prefix entered is pairs_is all_is =
    let same = take_prefix p h more less prefix in
    all_is
    ∙ ap (with_parts range (reached range rank (joins_of (take p more))) (below (take p more) rank)) (pairs_is ∙ ap (λ l. pairs_within range (below l rank)) (sym same))
    ∙ sym (below_next_within (take p more) rank range (has_entered_taken p more entered) is)
    ∙ ap (λ l. pairs_within range (below l (rank + 1))) same

-- ---- ranges that are bare

none_at : (range : Range) (joins : List DeclaredJoin) → AllByRecursion (λ s. bind_range s.join.output range ≡ None) joins → (rank : ℕ) → ReachesNoneBelow range rank joins
none_at range joins all rank =
    (reaches_none_below_each joins range rank).1 (λ place s stands less. all_at (λ t. bind_range t.join.output range ≡ None) joins place s all stands)

-- a bare range reaches no output of a rank
pub bare_reached : (h : History) (p rank : ℕ) (range : Range) → HasEntered (take p h) → is_range range.low range.high ≡ true → is_bare range (joins_of (take p h)) ≡ true → reached range rank (joins_of (take p h)) ≡ []
bare_reached h p rank range entered is bare =
    none_at range (joins_of (take p h)) (bare_reaches_none (joins_of (take p h)) range (declares_joins (take p h) entered) is bare) (rank + 1) rank (omega arith)

-- ---- the cost

-- what joins cost where none is reached
none_spends : {S : Type 0} (one : S → S → ℕ → Join → ℕ → Type 0) (b c : S) (m : ℕ) (joins : List DeclaredJoin) → joins ≡ [] → JoinsSpend one b c joins m → (m ≡ 0) × (c ≡ b)
none_spends one b c m joins none spends = subst (λ js. JoinsSpend one b c js m) none spends

-- over a bare range no more is spent than by the reader below
pub bare_costs : {S : Type 0} (one : S → S → ℕ → Join → ℕ → Type 0) (b c : S) (range : Range) (joins : List DeclaredJoin) (table pairs all : Table) (old mid new : ℕ) → joins ≡ [] → all ≡ with_parts range joins table pairs → JoinsSpend one b c joins (new - mid) →
    mid ≤ new → mid ≡ old + 1 + length pairs → new ≡ old + 1 + length all
bare_costs one b c range joins table pairs all old mid new none is spends up cost =
    let here = none_spends one b c (new - mid) joins none spends in
    let rows = ap length (is ∙ ap (λ js. with_parts range js table pairs) none) in
    omega (arith, here.0, rows, up, cost)

-- ---- what may have changed

-- a list that begins with one that has entered
pub entered_before : (h more : History) → IsPrefix h more → HasEntered more → HasEntered h
entered_before h more prefix entered =
    subst HasEntered (take_prefix (length h) h more (omega arith) prefix ∙ take_all (length h) h (omega arith)) (has_entered_taken (length h) more entered)

-- where the joins of the rank that the range reaches make the same, the same stands below the next rank where it does below the rank
same_next : (h : History) (q p rank : ℕ) (range : Range) (key : Text) → HasEntered h → is_range range.low range.high ≡ true → q ≤ p → changed_at (take p h) ≤ q → within range key ≡ true →
    Same h q p rank key → AllByRecursion (λ s. SameOutput h q p rank key s.join) (reached range rank (joins_of (take p h))) → Same h q p (rank + 1) key
same_next h q p rank range key entered is order steady inside same outputs =
    let stay = joins_stay_since h q p steady in
    same_below_next_within h q p rank range key entered is inside stay same
    (subst (λ joins. AllByRecursion (λ s. SameOutput h q p rank key s.join) (reached range rank joins)) (stay p order (omega arith)) outputs)

-- a range with a key is not empty
pub not_empty : (range : Range) (key : Text) → within range key ≡ true → is_open range ≡ true
not_empty range key inside = let parts = and_parts _ _ inside in up_to_below range.low key range.high parts.0 parts.1

-- what may not be known below a rank may not be below the next one
pub unknown_above : (h : History) (q p rank : ℕ) (range : Range) → MayNotBeKnown h q p rank range → MayNotBeKnown h q p (rank + 1) range
unknown_above h q p rank range unknown = record { computed = unknown.computed; why = by unknown.why }
  where
    by : (q < changed_at (take p h)) ⊎ MeetsOutput (joins_of (take p h)) rank range → (q < changed_at (take p h)) ⊎ MeetsOutput (joins_of (take p h)) (rank + 1) range
    by (inl later) = inl later
    by (inr meets) = inr (record {
      open_range = meets.open_range;
      place = meets.place;
      standing = meets.standing;
      stands = meets.stands;
      is_below = omega (arith, meets.is_below);
      meets = meets.meets;
    })

-- keys that are listed below a rank are listed below the next one, where the joins are steady and the range reaches no output of the rank or is empty
pub lists_above : (h : History) (q p rank : ℕ) (range : Range) (keys : List Text) → HasEntered h → is_range range.low range.high ≡ true → q ≤ p → changed_at (take p h) ≤ q →
    (reached range rank (joins_of (take p h)) ≡ []) ⊎ (is_open range ≡ false) → ListsChanges h q p rank range keys → ListsChanges h q p (rank + 1) range keys
lists_above h q p rank range keys entered is order steady (inl none) lists = record {
  ascend = lists.ascend;
  inside = lists.inside;
  complete = λ key inside unlisted. same_next h q p rank range key entered is order steady inside (lists.complete key inside unlisted)
      (subst (AllByRecursion (λ s. SameOutput h q p rank key s.join)) (sym none) tt);
}
lists_above h q p rank range keys entered is order steady (inr empty) lists = record {
  ascend = lists.ascend;
  inside = lists.inside;
  complete = λ key inside unlisted. absurd (false≢true (sym empty ∙ not_empty range key inside));
}

-- so are they over a range that is bare throughout
pub lists_bare : (h : History) (q p rank : ℕ) (range : Range) (keys : List Text) → HasEntered h → is_range range.low range.high ≡ true → IsBareThroughout h q p range →
    ListsChanges h q p rank range keys → ListsChanges h q p (rank + 1) range keys
lists_bare h q p rank range keys entered is bare lists = record {
  ascend = lists.ascend;
  inside = lists.inside;
  complete = λ key inside unlisted. same_where_bare h q p rank (rank + 1) range key entered is inside bare (lists.complete key inside unlisted);
}

meets_by : (joins found : List DeclaredJoin) (range : Range) (rank : ℕ) → reached range rank joins ≡ found → is_open range ≡ true → (found ≡ [] → ⊥) → MeetsOutput joins (rank + 1) range
meets_by joins [] range rank is opened some = absurd (some refl)
meets_by joins (s ∷ more) range rank is opened some =
    let stands = (reached_stand joins range rank s).0 (subst (λ js. Contains js s) (sym is) (0, omega arith, refl)) in
    record {
      open_range = opened;
      place = stands.0.place;
      standing = s;
      stands = stands.0.stands;
      is_below = omega (arith, stands.0.ranked);
      meets = stands.1;
    }

-- a range that is not empty and reaches an output of a rank meets an output below the next one
pub meets_above : (joins : List DeclaredJoin) (range : Range) (rank : ℕ) → is_open range ≡ true → (reached range rank joins ≡ [] → ⊥) → MeetsOutput joins (rank + 1) range
meets_above joins range rank opened some = meets_by joins (reached range rank joins) range rank refl opened some

-- positions of joins are none exactly where there is no join
pub no_positions : (joins : List DeclaredJoin) (ats : List ℕ) → ats ≡ map (λ s. s.position) joins → length ats ≡ 0 → joins ≡ []
no_positions [] ats is none = refl
no_positions (s ∷ joins) ats is none = let long = ap length is in absurd (omega (arith, long, none))

pub some_positions : (joins : List DeclaredJoin) (ats : List ℕ) → ats ≡ map (λ s. s.position) joins → (length ats ≡ 0 → ⊥) → joins ≡ [] → ⊥
some_positions joins ats is some none = some (ap length (is ∙ ap (map (λ s. s.position)) none))

-- ---- what changed, with the outputs of the rank

-- a range that reaches an output of a rank is not bare
never_bare_at : (h : History) (q p rank : ℕ) (range : Range) → HasEntered h → is_range range.low range.high ≡ true → q ≤ p → (reached range rank (joins_of (take p h)) ≡ [] → ⊥) → IsBareThroughout h q p range → ⊥
never_bare_at h q p rank range entered is order some bare = some (bare_reached h p rank range (has_entered_taken p h entered) is (bare p order (omega arith)))

-- keys that are listed below a rank, with those that its joins add, are listed below the next one, where the joins are steady
lists_with : (h : History) (q p rank : ℕ) (range : Range) (given keys : List Text) → HasEntered h → is_range range.low range.high ≡ true → q ≤ p → changed_at (take p h) ≤ q → ListsChanges h q p rank range given →
    ListsAdded h q p rank range (reached range rank (joins_of (take p h))) given keys → ListsChanges h q p (rank + 1) range keys
lists_with h q p rank range given keys entered is order steady lists added = record {
  ascend = added.ascend;
  inside = added.inside;
  complete = λ key inside unlisted. same_next h q p rank range key entered is order steady inside (lists.complete key inside (λ has. unlisted (added.keeps key has))) (added.complete key inside unlisted);
}

-- where the range reaches an output of the rank it may not be known
unknown_with : (h : History) (q p rank : ℕ) (range : Range) → HasEntered h → is_range range.low range.high ≡ true → q ≤ p → is_open range ≡ true → (reached range rank (joins_of (take p h)) ≡ [] → ⊥) → MayNotBeKnown h q p (rank + 1) range
unknown_with h q p rank range entered is order opened some = record {
  computed = never_bare_at h q p rank range entered is order some;
  why = inr (meets_above (joins_of (take p h)) range rank opened some);
}

-- so is what is answered
pub answers_with : (h : History) (q p rank : ℕ) (range : Range) (given : List Text) (answer : Changed) → HasEntered h → is_range range.low range.high ≡ true → q ≤ p → changed_at (take p h) ≤ q →
    is_open range ≡ true → (reached range rank (joins_of (take p h)) ≡ [] → ⊥) → ListsChanges h q p rank range given →
    AddsChanges h q p rank range (reached range rank (joins_of (take p h))) given answer → AnswersChanges h q p (rank + 1) range answer
answers_with h q p rank range given (Keys keys) entered is order steady opened some lists added = lists_with h q p rank range given keys.items entered is order steady lists added
answers_with h q p rank range given All entered is order steady opened some lists added = unknown_with h q p rank range entered is order opened some

-- also with values
pub tells_with : (h : History) (q p rank : ℕ) (range : Range) (given : List Text) (answer : Changes) → HasEntered h → is_range range.low range.high ≡ true → q ≤ p → changed_at (take p h) ≤ q →
    is_open range ≡ true → (reached range rank (joins_of (take p h)) ≡ [] → ⊥) → ListsChanges h q p rank range given →
    AddsTold h q p rank range (reached range rank (joins_of (take p h))) given answer → TellsChanges h q p (rank + 1) range answer
tells_with h q p rank range given (Listed changes) entered is order steady opened some lists added = lists_with h q p rank range given (change_keys changes.items) entered is order steady lists added
tells_with h q p rank range given Unlisted entered is order steady opened some lists added = unknown_with h q p rank range entered is order opened some

-- a range that reaches an output of a rank is not bare at all positions
pub never_bare : (h more : History) (q p rank : ℕ) (range : Range) (ats : List ℕ) → q ≤ p → p ≤ length h → IsPrefix h more → HasEntered more → is_range range.low range.high ≡ true →
    ats ≡ map (λ s. s.position) (reached range rank (joins_of (take p more))) → (length ats ≡ 0 → ⊥) → IsBareThroughout h q p range → ⊥
never_bare h more q p rank range ats order less prefix entered is ats_are some bare =
    some_positions (reached range rank (joins_of (take p more))) ats ats_are some
    (bare_reached more p rank range (has_entered_taken p more entered) is
    (subst (λ l. is_bare range (joins_of l) ≡ true) (sym (take_prefix p h more less prefix)) (bare p order (omega arith))))
