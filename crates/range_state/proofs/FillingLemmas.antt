-- The needs of the value source of a right kept range can fill: each slot of the output has its text in the slots of the path, or occurs in the source.
use Rattle.std.proofs.Common.{◌≡◌, ◌⊎◌, ℕ, zero, suc, ◌+◌, ◌≤◌, true, false, not, List, [], ◌∷◌, ◌++◌, length, filter, slice_get, Contains, Some, refl, sym, ap, ◌∙◌, subst, inl, inr, ⊎_elim, arith, eqb-true}
use Rattle.std.specs.List.{enumerate_from}
use Rattle.std.proofs.lemmas.Bool.{and_parts, and_from, false≢true}
use Rattle.std.proofs.lemmas.Option.{none-some, same_Some}
use Rattle.semantics.specs.Texts.{Text, Table}
use Rattle.semantics.specs.Patterns.{Slots, no_slots, is_pattern, segments, Fits}
use Rattle.semantics.specs.Joins.{Source, Join, is_check, is_join, checks_of, value_sources_of, evaluation_order, slots_of, source_slots_of}
use Rattle.semantics.specs.States.{KeepsRules}
use Rattle.semantics.proofs.PatternLemmas.{text_at-no_slots}
use Rattle.semantics.proofs.MemberLemmas.{Has, has_from_contains, contains_from_has, has_append_cases, has_append_left, has_filter, has_filtered, has_flat_map, passes_from_all}
use Rattle.semantics.proofs.OutputLemmas.{sources_of_join}
use Rattle.range_evaluation.specs.Trees.{placed_sources}
use Rattle.range_evaluation.specs.PathLaws.{IsPath}
use Rattle.operators.specs.Evaluation.{HasText}
use Rattle.operators.proofs.SlotLemmas.{can_start, has_text}
use Rattle.kept_ranges.specs.Kept.{CameBy}
use Rattle.kept_ranges.proofs.PathLemmas.{some_with, stands_at, has_from_at}
use Rattle.growing_history.proofs.ElementLemmas.{all_from_has, has_of_all}
use Rattle.range_state.specs.Filling.{CanFill}
use Rattle.range_state.specs.Laws.{NeedCanFill, NeedsCanFill}

-- ---- texts of a path

-- a source before the end of a path has a key of it that fits
record HasFit (source : Source) (slots : Slots) : Type 0 where
  key : Text
  fits : Fits source.pattern key slots

-- so each of the first sources, where the path has a key for each of them
fit_first : (first others : List (ℕ × Source)) (table : Table) (path : List Text) (slots : Slots) (p : ℕ × Source) → IsPath (first ++ others) table path slots → length first ≤ length path → Has first p → HasFit p.1 slots
fit_first [] others table path slots p h long has = absurd has
fit_first (q ∷ qs) others table [] slots p h long has = absurd (omega (arith, long))
fit_first (q ∷ qs) others table (key ∷ keys) slots p h long (inl e) = subst (λ (r : ℕ × Source). HasFit r.1 slots) e (record { key = key; fits = h.1 })
fit_first (q ∷ qs) others table (key ∷ keys) slots p h long (inr has) = fit_first qs others table keys slots p h.2 (omega (arith, long)) has

-- ---- the sources of a join

-- behind which places a source stands that is no check
not_first : (first others : List (ℕ × Source)) (n : ℕ) (p : ℕ × Source) → ((q : ℕ × Source) → Has first q → is_check q.1.operator ≡ true) → slice_get (first ++ others) n ≡ Some p → is_check p.1.operator ≡ false → length first ≤ n
not_first [] others n p checked at value = omega arith
not_first (q ∷ qs) others zero p checked at value = absurd (false≢true (sym value ∙ ap (λ (r : ℕ × Source). is_check r.1.operator) (sym (same_Some q p at)) ∙ checked q (inl refl)))
not_first (q ∷ qs) others (suc n) p checked at value = let less : length qs ≤ n = not_first qs others n p (λ r h. checked r (inr h)) at value in omega (arith, less)

-- a source has its place
numbered : (n : ℕ) (ss : List Source) (s : Source) → Has ss s → (p : ℕ × Source) × Has (enumerate_from n ss) p × (p.1 ≡ s)
numbered n [] s h = absurd h
numbered n (r ∷ rs) s (inl e) = ((n, r), inl refl, e)
numbered n (r ∷ rs) s (inr h) = let w = numbered (n + 1) rs s h in (w.0, inr w.1, w.2)

-- a list of one element has no two
only_one : {A : Type 0} (xs : List A) (x y : A) → length xs ≡ 1 → Has xs x → Has xs y → x ≡ y
only_one [] x y one h g = absurd h
only_one (a ∷ []) x y one (inl e) (inl d) = sym e ∙ d
only_one (a ∷ []) x y one (inr h) g = absurd h
only_one (a ∷ []) x y one (inl e) (inr g) = absurd g
only_one (a ∷ b ∷ more) x y one h g = absurd (omega (arith, one))

-- the checks with their places
abbrev placed_checks : Join → List (ℕ × Source)
placed_checks j = filter (λ p. is_check p.1.operator) (enumerate_from 0 j.sources)

-- a slot of a check has its text under the slots of a path with a key for each check
check_text : (j : Join) (table : Table) (path : List Text) (slots : Slots) (s : Source) (place width : ℕ) → IsPath (placed_sources j) table path slots → length (placed_checks j) ≤ length path →
    Has (checks_of j.sources) s → Has (slots_of s.pattern) (place, width) → HasText place width slots
check_text j table path slots s place width h long has there =
    let kept = has_filter (λ r. is_check r.operator) j.sources s has in
    let at = numbered 0 j.sources s kept.1 in
    let checked : is_check at.0.1.operator ≡ true = ap (λ (r : Source). is_check r.operator) at.2 ∙ kept.0 in
    let placed = has_filtered (λ (p : ℕ × Source). is_check p.1.operator) (enumerate_from 0 j.sources) at.0 checked at.1 in
    let fit = fit_first (placed_checks j) (filter (λ p. not (is_check p.1.operator)) (enumerate_from 0 j.sources)) table path slots at.0 h long placed in
    has_text at.0.1.pattern (segments fit.key) slots place width fit.fits (subst (λ (r : Source). Has (slots_of r.pattern) (place, width)) (sym at.2) there)

-- ---- needs

-- a slot of the output has its text, or occurs in the value source
text_or_left : (j : Join) (table : Table) (path : List Text) (slots : Slots) (source : Source) (place width : ℕ) → is_join j ≡ true → KeepsRules j → IsPath (placed_sources j) table path slots → length (placed_checks j) ≤ length path →
    Has (value_sources_of j.sources) source → Contains (slots_of j.output) (place, width) → HasText place width slots ⊎ Contains (source_slots_of (source ∷ [])) (place, width)
text_or_left j table path slots source place width ok rules h long is_value there = ⊎_elim
    (λ (has : HasText place width no_slots). absurd (none-some has.0 (sym (text_at-no_slots place) ∙ has.1)))
    (λ later.
    let found = has_flat_map (λ (s : Source). slots_of s.pattern) (evaluation_order j) (place, width) (has_from_contains (source_slots_of (evaluation_order j)) (place, width) later) in
    ⊎_elim
    (λ (check : Has (checks_of j.sources) found.0). inl (check_text j table path slots found.0 place width h long check found.2))
    (λ (value : Has (value_sources_of j.sources) found.0).
    let one : length (value_sources_of j.sources) ≡ 1 = eqb-true _ _ (and_parts _ _ (and_parts _ _ rules.sources).0).0 in
    let same : found.0 ≡ source = only_one (value_sources_of j.sources) found.0 source one value is_value in
    inr (contains_from_has (source_slots_of (source ∷ [])) (place, width) (has_append_left (slots_of source.pattern) [] (place, width) (subst (λ (r : Source). Has (slots_of r.pattern) (place, width)) same found.2))))
    (has_append_cases (checks_of j.sources) (value_sources_of j.sources) found.0 found.1))
    ((can_start j ok rules.slots).texts place width there)

-- a need that came by a path can fill
pub need_can_fill : NeedCanFill
need_can_fill j table needs need ok rules came source is value =
    let w = some_with (λ (p : ℕ × Source). p.0 ≡ need.source) (slice_get (placed_sources j) (length need.by)) came.next in
    let stands : slice_get j.sources need.source ≡ Some w.0.1 = subst (λ i. slice_get j.sources i ≡ Some w.0.1) w.2 (stands_at j (length need.by) w.0.0 w.0.1 w.1) in
    let same : w.0.1 ≡ source = same_Some w.0.1 source (sym stands ∙ is) in
    let has : Has j.sources source = has_from_at j.sources need.source source is in
    let long = not_first (placed_checks j) (filter (λ p. not (is_check p.1.operator)) (enumerate_from 0 j.sources)) (length need.by) w.0
    (λ q h. (has_filter (λ (p : ℕ × Source). is_check p.1.operator) (enumerate_from 0 j.sources) q h).0) w.1 (ap (λ (r : Source). is_check r.operator) same ∙ value) in
    let listed = has_filtered (λ (r : Source). not (is_check r.operator)) j.sources source (ap not value) has in
    record {
      places = came.places;
      patterns = and_from (is_pattern source.pattern) true (passes_from_all (λ (r : Source). is_pattern r.pattern) j.sources source (sources_of_join j ok) has) refl;
      texts = λ place width there. text_or_left j table need.by need.slots source place width ok rules came.path long listed there;
    }

-- so can each that is left
pub needs_can_fill : NeedsCanFill
needs_can_fill j table needs test ok rules came = all_from_has (CanFill j) (filter test needs) (λ need h.
    need_can_fill j table needs need ok rules (has_of_all (CameBy j table needs) needs need came (has_filter test needs need h).1))
