-- Ranges of ids in the order of one of their bounds.
use Rattle.std.proofs.Common.{◌≡◌, ℕ, Bool, true, false, cond, not, ◌&&◌, ◌||◌, ◌==◌, List, refl, sym, ap, ◌∙◌, Ordering, Less, Equal, Greater, is_eq}
use Rattle.std.specs.Cmp.{unsigned_tied}
use Rattle.std.specs.List.{list_any}
use Rattle.std.specs.Ordering.{ordering_then, nat_cmp}
use Rattle.std.specs.BTreeMap.{is_at}
use Rattle.std.proofs.lemmas.Bool.{and_parts, eqb-true}
use Rattle.semantics.specs.Texts.{Text, same, text_cmp, Range}
use Rattle.semantics.proofs.PieceLemmas.{equal_by_same}
use Rattle.semantics.proofs.TableLemmas.{same_is_tie}
use Rattle.updater_index.specs.declared.side.Span.{Span}
use Rattle.updater_index.specs.Registered.{same_range}
use Rattle.updater_index.specs.Spans.{span_cmp, low_span, high_span, has_low, has_high, is_same}

abbrev span : Text → ℕ → Text → Span
span a id b = record { first = a; id = id; second = b }

-- ---- spans that tie

tie_both : (o p : Ordering) → is_eq (ordering_then o p) ≡ (is_eq o && is_eq p)
tie_both Less p = refl
tie_both Equal p = refl
tie_both Greater p = refl

tied_three : (a b : Bool) (n : Bool) → (a && (n && b)) ≡ ((a && b) && n)
tied_three true true true = refl
tied_three true true false = refl
tied_three true false true = refl
tied_three true false false = refl
tied_three false b n = refl

swapped_three : (a b : Bool) (n : Bool) → (b && (n && a)) ≡ ((a && b) && n)
swapped_three true true true = refl
swapped_three true true false = refl
swapped_three true false n = refl
swapped_three false true true = refl
swapped_three false true false = refl
swapped_three false false n = refl

-- spans tie exactly where their parts are the same
pub span_tie : (s t : Span) → is_at (span_cmp s) t ≡ (same s.first t.first && ((s.id == t.id) && same s.second t.second))
span_tie s t =
    let second = ordering_then (nat_cmp s.id t.id) (text_cmp s.second t.second) in
    tie_both (text_cmp s.first t.first) second
    ∙ ap (λ b. b && is_eq second) (sym (same_is_tie s.first t.first))
    ∙ ap (λ b. same s.first t.first && b) (tie_both (nat_cmp s.id t.id) (text_cmp s.second t.second)
    ∙ ap (λ b. b && is_eq (text_cmp s.second t.second)) (unsigned_tied s.id t.id)
    ∙ ap (λ b. (s.id == t.id) && b) (sym (same_is_tie s.second t.second)))

-- ranges of ids by their first bounds tie exactly where they are the same
pub low_tie : (r : Range) (id : ℕ) (s : Range) (q : ℕ) → is_at (span_cmp (low_span r id)) (low_span s q) ≡ is_same r id s q
low_tie r id s q = span_tie (low_span r id) (low_span s q) ∙ tied_three (same r.low s.low) (same r.high s.high) (id == q)

-- and so by their last bounds
pub high_tie : (r : Range) (id : ℕ) (s : Range) (q : ℕ) → is_at (span_cmp (high_span r id)) (high_span s q) ≡ is_same r id s q
high_tie r id s q = span_tie (high_span r id) (high_span s q) ∙ swapped_three (same r.low s.low) (same r.high s.high) (id == q)

-- ---- one range more, or less

or_is : (a b : Bool) → cond a true b ≡ (a || b)
or_is true b = refl
or_is false b = refl

and_is : (a b : Bool) → cond a false b ≡ (not a && b)
and_is true b = refl
and_is false b = refl

-- the spans by their first bounds have what was there, and the range
pub low_added : (old new : List Span) (b : Range) (id : ℕ) (key : Span) → key ≡ low_span b id → ((q : Span) → list_any (is_at (span_cmp q)) new ≡ cond (is_at (span_cmp key) q) true (list_any (is_at (span_cmp q)) old)) →
    (r : Range) (q : ℕ) → has_low new r q ≡ (is_same b id r q || has_low old r q)
low_added old new b id key e h r q = h (low_span r q) ∙ ap (λ k. cond (is_at (span_cmp k) (low_span r q)) true (has_low old r q)) e ∙ ap (λ t. cond t true (has_low old r q)) (low_tie b id r q) ∙ or_is (is_same b id r q) (has_low old r q)

pub high_added : (old new : List Span) (b : Range) (id : ℕ) (key : Span) → key ≡ high_span b id → ((q : Span) → list_any (is_at (span_cmp q)) new ≡ cond (is_at (span_cmp key) q) true (list_any (is_at (span_cmp q)) old)) →
    (r : Range) (q : ℕ) → has_high new r q ≡ (is_same b id r q || has_high old r q)
high_added old new b id key e h r q = h (high_span r q) ∙ ap (λ k. cond (is_at (span_cmp k) (high_span r q)) true (has_high old r q)) e ∙ ap (λ t. cond t true (has_high old r q)) (high_tie b id r q) ∙ or_is (is_same b id r q) (has_high old r q)

pub low_removed : (old new : List Span) (b : Range) (id : ℕ) (key : Span) → key ≡ low_span b id → ((q : Span) → list_any (is_at (span_cmp q)) new ≡ cond (is_at (span_cmp key) q) false (list_any (is_at (span_cmp q)) old)) →
    (r : Range) (q : ℕ) → has_low new r q ≡ (not (is_same b id r q) && has_low old r q)
low_removed old new b id key e h r q = h (low_span r q) ∙ ap (λ k. cond (is_at (span_cmp k) (low_span r q)) false (has_low old r q)) e ∙ ap (λ t. cond t false (has_low old r q)) (low_tie b id r q) ∙ and_is (is_same b id r q) (has_low old r q)

pub high_removed : (old new : List Span) (b : Range) (id : ℕ) (key : Span) → key ≡ high_span b id → ((q : Span) → list_any (is_at (span_cmp q)) new ≡ cond (is_at (span_cmp key) q) false (list_any (is_at (span_cmp q)) old)) →
    (r : Range) (q : ℕ) → has_high new r q ≡ (not (is_same b id r q) && has_high old r q)
high_removed old new b id key e h r q = h (high_span r q) ∙ ap (λ k. cond (is_at (span_cmp k) (high_span r q)) false (has_high old r q)) e ∙ ap (λ t. cond t false (has_high old r q)) (high_tie b id r q) ∙ and_is (is_same b id r q) (has_high old r q)

-- ---- ranges that are the same

-- the same range of the same id is as much there
pub same_has : (P : Range → ℕ → Bool) (b : Range) (id : ℕ) (r : Range) (q : ℕ) → is_same b id r q ≡ true → P r q ≡ P b id
same_has P b id r q e =
    let parts = and_parts (same_range b r) (id == q) e in
    let ends = and_parts (same b.low r.low) (same b.high r.high) parts.0 in
    let low : b.low ≡ r.low = equal_by_same b.low r.low ends.0 in
    let high : b.high ≡ r.high = equal_by_same b.high r.high ends.1 in
    let ids : id ≡ q = eqb-true id q parts.1 in
    (λ i. P (record { low = sym low i; high = sym high i }) (sym ids i))

-- a range that was not there, and was added and taken out again
pub back_out : (P : Range → ℕ → Bool) (b : Range) (id : ℕ) → P b id ≡ false → (r : Range) (q : ℕ) → (not (is_same b id r q) && (is_same b id r q || P r q)) ≡ P r q
back_out P b id h r q = (elim (is_same b id r q) as (λ t. is_same b id r q ≡ t → (not t && (t || P r q)) ≡ P r q) [
  | true ↦ λ e. sym (same_has P b id r q e ∙ h)
  | false ↦ λ e. refl
]) refl

-- a test that is not passed
pub not_true : (b : Bool) → not b ≡ true → b ≡ false
not_true true e = sym e
not_true false e = refl

-- spans with the same parts
pub span_is : {a b c d : Text} (id : ℕ) → a ≡ b → c ≡ d → span a id c ≡ span b id d
span_is id e f = λ i. span (e i) id (f i)
