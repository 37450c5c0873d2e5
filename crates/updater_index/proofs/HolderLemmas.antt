-- Which spans are walked to find the ids whose ranges contain a key.
use Rattle.std.proofs.Common.{◌≡◌, ℕ, Bool, true, false, cond, not, ◌&&◌, ◌||◌, ◌==◌, ◌⊎◌, inl, inr, List, [], ◌∷◌, ◌++◌, filter, refl, sym, ap, ◌∙◌, subst, Ordering, Less, Equal, Greater, is_lt}
use Rattle.std.specs.List.{list_any}
use Rattle.std.specs.Ordering.{nat_cmp, ordering_then, ordering_reverse, is_le}
use Rattle.std.specs.BTreeMap.{is_at}
use Rattle.std.specs.BTreeMap.Range.{range_contains}
use Rattle.std.specs.BTreeSet.{BTreeSet, contains}
use Rattle.std.specs.declared.ops.Bound.TheVariants.{Included, Excluded, Unbounded}
use Rattle.std.proofs.lemmas.Bool.{and_parts, and_from, or_left, or_right, or_cases, eqb-true, eq-eqb, false≢true}
use Rattle.semantics.specs.Texts.{Text, same, text_cmp, Range, within}
use Rattle.semantics.proofs.MemberLemmas.{Has, has_from_any, any_from_has, has_filter, has_filtered}
use Rattle.semantics.proofs.PieceLemmas.{equal_by_same, same_itself}
use Rattle.semantics.proofs.TableLemmas.{text_total}
use Rattle.key_ranges.specs.Ranges.{is_below, just}
use Rattle.key_ranges.proofs.OrderLemmas.{up_to_below}
use Rattle.key_ranges.proofs.PrefixLemmas.{within-just}
use Rattle.updater_index.specs.declared.side.Span.{Span}
use Rattle.updater_index.specs.Spans.{span_cmp, low_span, high_span, has_low, has_high, range_of, holds, FindsHolders, AllFound}
use Rattle.updater_index.proofs.SpanLemmas.{span_tie}

-- ---- a range of an id by either bound

-- a range of an id as a span
abbrev pub span_by : Bool → Range → ℕ → Span
span_by true r id = low_span r id
span_by false r id = high_span r id

-- whether it is among spans
abbrev pub has_by : Bool → List Span → Range → ℕ → Bool
has_by by_low spans r id = list_any (is_at (span_cmp (span_by by_low r id))) spans

spanned : (by_low : Bool) (s : Span) → span_by by_low (range_of by_low s) s.id ≡ s
spanned true s = refl
spanned false s = refl

-- spans that tie are equal
pub tied : (s t : Span) → is_at (span_cmp s) t ≡ true → s ≡ t
tied s t e =
    let parts = and_parts (same s.first t.first) ((s.id == t.id) && same s.second t.second) (sym (span_tie s t) ∙ e) in
    let more = and_parts (s.id == t.id) (same s.second t.second) parts.1 in
    let first = equal_by_same s.first t.first parts.0 in
    let id = eqb-true s.id t.id more.0 in
    let second = equal_by_same s.second t.second more.1 in
    (λ i. record { first = first i; id = id i; second = second i })

ties_itself : (s : Span) → is_at (span_cmp s) s ≡ true
ties_itself s = span_tie s s ∙ and_from (same s.first s.first) ((s.id == s.id) && same s.second s.second) (same_itself s.first) (and_from (s.id == s.id) (same s.second s.second) (eq-eqb s.id s.id refl) (same_itself s.second))

ties_at : (by_low : Bool) (s : Span) (id : ℕ) → s.id ≡ id → is_at (span_cmp (span_by by_low (range_of by_low s) id)) s ≡ true
ties_at by_low s id e = ap (λ q. is_at (span_cmp (span_by by_low (range_of by_low s) q)) s) (sym e) ∙ ap (λ t. is_at (span_cmp t) s) (spanned by_low s) ∙ ties_itself s

holds_at : (by_low : Bool) (key : Text) (r : Range) (id : ℕ) → within r key ≡ true → holds by_low key id (span_by by_low r id) ≡ true
holds_at true key r id h = and_from (id == id) (within r key) (eq-eqb id id refl) h
holds_at false key r id h = and_from (id == id) (within r key) (eq-eqb id id refl) h

-- ---- what is found among the spans that are walked

-- a span that is walked and holds the key shows a range that is there
found_there : (by_low : Bool) (walked : Span → Bool) (key : Text) (id : ℕ) (spans : List Span) → list_any (holds by_low key id) (filter walked spans) ≡ true →
    (r : Range) × (has_by by_low spans r id ≡ true) × (within r key ≡ true)
found_there by_low walked key id spans h =
    let one = has_from_any (holds by_low key id) (filter walked spans) h in
    let s = one.0 in
    let parts = and_parts (s.id == id) (within (range_of by_low s) key) one.2 in
    (range_of by_low s, any_from_has (is_at (span_cmp (span_by by_low (range_of by_low s) id))) spans s (has_filter walked spans s one.1).1 (ties_at by_low s id (eqb-true s.id id parts.0)), parts.1)

-- a range that is there, contains the key and is walked is found
found_by : (by_low : Bool) (walked : Span → Bool) (key : Text) (spans : List Span) (r : Range) (id : ℕ) → has_by by_low spans r id ≡ true → within r key ≡ true → walked (span_by by_low r id) ≡ true →
    list_any (holds by_low key id) (filter walked spans) ≡ true
found_by by_low walked key spans r id has inside walks =
    let one = has_from_any (is_at (span_cmp (span_by by_low r id))) spans has in
    let is = tied (span_by by_low r id) one.0 one.2 in
    any_from_has (holds by_low key id) (filter walked spans) one.0
    (has_filtered walked spans one.0 (subst (λ s. walked s ≡ true) is walks) one.1)
    (subst (λ s. holds by_low key id s ≡ true) is (holds_at by_low key r id inside))

-- what a walk over spans finds
abbrev pub Walks : Bool → (Span → Bool) → Text → List Span → BTreeSet ℕ → BTreeSet ℕ → Type 0
Walks by_low walked key spans old new = (id : ℕ) → contains nat_cmp new id ≡ (contains nat_cmp old id || list_any (holds by_low key id) (filter walked spans))

-- it finds ids of which a range contains the key
pub finds_holders : (by_low : Bool) (walked : Span → Bool) (key : Text) (spans : List Span) (old new : BTreeSet ℕ) → Walks by_low walked key spans old new → FindsHolders (has_by by_low spans) key old new
finds_holders by_low walked key spans old new w = record {
  kept = λ id h. w id ∙ or_left (contains nat_cmp old id) (list_any (holds by_low key id) (filter walked spans)) h;
  sound = λ id h. elim (or_cases (contains nat_cmp old id) (list_any (holds by_low key id) (filter walked spans)) (sym (w id) ∙ h)) [
    | inl before ↦ inl before
    | inr now ↦ inr (found_there by_low walked key id spans now)
  ];
}

-- and all of them, where it walks each range that contains the key
pub finds_all : (by_low : Bool) (walked : Span → Bool) (key : Text) (spans : List Span) (old new : BTreeSet ℕ) → Walks by_low walked key spans old new →
    ((r : Range) (id : ℕ) → within r key ≡ true → walked (span_by by_low r id) ≡ true) → AllFound (has_by by_low spans) key new
finds_all by_low walked key spans old new w each = λ r id has inside.
    w id ∙ or_right (contains nat_cmp old id) (list_any (holds by_low key id) (filter walked spans)) (found_by by_low walked key spans r id has inside (each r id inside))

-- ---- each range that contains the key is walked

greater_by : (o : Ordering) → is_lt o ≡ true → ordering_reverse o ≡ Greater
greater_by Less h = refl
greater_by Equal h = absurd (false≢true h)
greater_by Greater h = absurd (false≢true h)

less_by : (o : Ordering) → is_lt o ≡ true → o ≡ Less
less_by Less h = refl
less_by Equal h = absurd (false≢true h)
less_by Greater h = absurd (false≢true h)

-- among those whose first bounds are below the next text after it
pub low_walked : (end : Span) (key : Text) → end.first ≡ (just key).high → (r : Range) (id : ℕ) → within r key ≡ true → range_contains span_cmp Unbounded (Excluded end) (low_span r id) ≡ true
low_walked end key e r id h =
    let parts = and_parts (is_le (text_cmp r.low key)) (is_lt (text_cmp key r.high)) h in
    let own = and_parts (is_le (text_cmp key key)) (is_lt (text_cmp key (just key).high)) (within-just key key ∙ same_itself key) in
    let below : is_below r.low end.first ≡ true = ap (is_below r.low) e ∙ up_to_below r.low key (just key).high parts.0 own.1 in
    ap (λ o. not (is_le (ordering_then o (ordering_then (nat_cmp end.id id) (text_cmp end.second r.high))))) (text_total.antisymm end.first r.low ∙ greater_by (text_cmp r.low end.first) below)

-- among those whose last bounds are above it
pub high_walked : (start : Span) (key : Text) → start.first ≡ key → (r : Range) (id : ℕ) → within r key ≡ true → range_contains span_cmp (Excluded start) Unbounded (high_span r id) ≡ true
high_walked start key e r id h =
    let parts = and_parts (is_le (text_cmp r.low key)) (is_lt (text_cmp key r.high)) h in
    ap (λ o. is_lt (ordering_then o (ordering_then (nat_cmp start.id id) (text_cmp start.second r.low))) && true) (ap (λ t. text_cmp t r.high) e ∙ less_by (text_cmp key r.high) parts.1)
