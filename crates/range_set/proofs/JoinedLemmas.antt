-- Ranges that join to one range.
use Rattle.std.proofs.Common.{◌≡◌, ◌+◌, Bool, true, false, cond, not, ◌&&◌, List, [], ◌∷◌, ◌++◌, count_by, flat_map, refl, sym, ap, ◌∙◌, subst, inl, inr}
use Rattle.std.specs.FinMap.Entries.{below_all, is_sorted}
use Rattle.std.proofs.lemmas.Bool.{false≢true, and_parts, and_from, and_right}
use Rattle.std.proofs.lemmas.List.Sums.{sum_by-cons}
use Rattle.semantics.specs.Texts.{Text, text_cmp, Range, within, Table, pairs_where, pairs_within}
use Rattle.semantics.proofs.MemberLemmas.{Has, has_from_contains}
use Rattle.key_ranges.specs.Ranges.{is_below, is_open}
use Rattle.key_ranges.proofs.OrderLemmas.{is_up_to, up_to_itself, up_to_from_below, up_to_from_not_below, up_to-not_below, below_up_to, up_to_trans}
use Rattle.key_ranges.proofs.RangeLemmas.{within_table}
use Rattle.range_set.specs.Joined.{JoinFrom, JoinTo, LiesIn, JoinedHoldOnce, JoinedHavePairs, JoinedLieIn, JoinedAreOfTable}

-- where ranges join from one bound to another, the first is up to the other
pub joined_up_to : (low high : Text) (rs : List Range) → JoinFrom low high rs → is_up_to low high ≡ true
joined_up_to low high [] j = subst (λ t. is_up_to low t ≡ true) j (up_to_itself low)
joined_up_to low high (r ∷ rs) j =
    up_to_trans low r.high high (subst (λ t. is_up_to t r.high ≡ true) j.0 (up_to_from_below r.low r.high j.1)) (joined_up_to r.high high rs j.2)

-- ---- how a range is cut in two

-- a text below the middle is below the end, and another is from the beginning on
pub record IsCut (key low middle high : Text) : Type 0 where
  pub other : is_up_to middle key ≡ not (is_below key middle)
  pub before : is_below key middle ≡ true → is_below key high ≡ true
  pub after : is_below key middle ≡ false → is_up_to low key ≡ true

-- a range is cut at a bound between its bounds
cut_at : (key low middle high : Text) → is_below low middle ≡ true → is_up_to middle high ≡ true → IsCut key low middle high
cut_at key low middle high below upto = record {
  other = up_to-not_below middle key;
  before = λ h. below_up_to key middle high h upto;
  after = λ h. up_to_trans low middle key (up_to_from_below low middle below) (up_to_from_not_below key middle h);
}

-- ---- each key lies in one range

count_by_tests : (a x b : Bool) → (x ≡ true → b ≡ true) → (x ≡ false → a ≡ true) → cond (a && x) 1 0 + cond (not x && b) 1 0 ≡ cond (a && b) 1 0
count_by_tests true true true h g = refl
count_by_tests true true false h g = absurd (false≢true (h refl))
count_by_tests true false true h g = refl
count_by_tests true false false h g = refl
count_by_tests false true b h g = refl
count_by_tests false false b h g = absurd (false≢true (g refl))

-- the first part and the second, for a key
count_cut : (key low middle high : Text) → IsCut key low middle high →
    cond (is_up_to low key && is_below key middle) 1 0 + cond (is_up_to middle key && is_below key high) 1 0 ≡ cond (is_up_to low key && is_below key high) 1 0
count_cut key low middle high c =
    ap (λ x. cond (is_up_to low key && is_below key middle) 1 0 + cond (x && is_below key high) 1 0) c.other
    ∙ count_by_tests (is_up_to low key) (is_below key middle) (is_below key high) c.before c.after

-- a key does not lie in an empty range
outside_empty : (low high key : Text) → low ≡ high → (is_up_to low key && is_below key high) ≡ false
outside_empty low high key e = by (is_below key low) refl
  where
    by : (x : Bool) → is_below key low ≡ x → (is_up_to low key && is_below key high) ≡ false
    by true h = ap (λ y. y && is_below key high) (up_to-not_below low key ∙ ap not h)
    by false h = and_right (is_up_to low key) (is_below key high) (ap (is_below key) (sym e) ∙ h)

hold_once : (low high : Text) (rs : List Range) (key : Text) → JoinFrom low high rs → count_by (λ r. within r key) rs ≡ cond (is_up_to low key && is_below key high) 1 0
hold_once low high [] key j = ap (λ x. cond x 1 0) (sym (outside_empty low high key j))
hold_once low high (r ∷ rs) key j =
    sum_by-cons (λ s. cond (within s key) 1 0) r rs
    ∙ ap (λ n. cond (within r key) 1 0 + n) (hold_once r.high high rs key j.2)
    ∙ count_cut key r.low r.high high (cut_at key r.low r.high high j.1 (joined_up_to r.high high rs j.2))
    ∙ ap (λ t. cond (is_up_to t key && is_below key high) 1 0) j.0

-- of ranges that join to a range, each key of it lies in exactly one
pub joined_hold_once : JoinedHoldOnce
joined_hold_once whole rs key j = hold_once whole.low whole.high rs key j

-- ---- the pairs of a table

-- no pair above a bound lies below it
none_below : (low high key : Text) (t : Table) → is_up_to high key ≡ true → below_all text_cmp key t ≡ true → pairs_where (λ k. is_up_to low k && is_below k high) t ≡ []
none_below low high key [] h g = refl
none_below low high key (e ∷ es) h g =
    let parts = and_parts (is_below key e.0) (below_all text_cmp key es) g in
    let above : is_up_to high e.0 ≡ true = up_to_trans high key e.0 h (up_to_from_below key e.0 parts.0) in
    let outside : is_below e.0 high ≡ false = by (is_below e.0 high) refl above in
    ap (λ x. cond x (e ∷ pairs_where (λ k. is_up_to low k && is_below k high) es) (pairs_where (λ k. is_up_to low k && is_below k high) es))
    (and_right (is_up_to low e.0) (is_below e.0 high) outside)
    ∙ none_below low high key es h parts.1
  where
    by : (x : Bool) → is_below e.0 high ≡ x → is_up_to high e.0 ≡ true → x ≡ false
    by true b u = absurd (false≢true (sym (up_to-not_below high e.0 ∙ ap not b) ∙ u))
    by false b u = refl

pairs_by_tests : (a x b : Bool) (e : Text × Text) (first second whole : Table) → (x ≡ true → b ≡ true) → (x ≡ false → a ≡ true) → (x ≡ false → first ≡ []) → first ++ second ≡ whole →
    cond (a && x) (e ∷ first) first ++ cond (not x && b) (e ∷ second) second ≡ cond (a && b) (e ∷ whole) whole
pairs_by_tests true true true e first second whole h g none ih = ap (λ t. e ∷ t) ih
pairs_by_tests true true false e first second whole h g none ih = absurd (false≢true (h refl))
pairs_by_tests true false true e first second whole h g none ih =
    ap (λ t. t ++ e ∷ second) (none refl) ∙ ap (λ t. e ∷ t) (ap (λ t. t ++ second) (sym (none refl)) ∙ ih)
pairs_by_tests true false false e first second whole h g none ih = ih
pairs_by_tests false true b e first second whole h g none ih = ih
pairs_by_tests false false b e first second whole h g none ih = absurd (false≢true (g refl))

-- the pairs of two parts, one after another
pairs_cut : (low middle high : Text) (t : Table) → is_sorted text_cmp t ≡ true → is_below low middle ≡ true → is_up_to middle high ≡ true →
    pairs_where (λ k. is_up_to low k && is_below k middle) t ++ pairs_where (λ k. is_up_to middle k && is_below k high) t ≡ pairs_where (λ k. is_up_to low k && is_below k high) t
pairs_cut low middle high [] s below upto = refl
pairs_cut low middle high (e ∷ es) s below upto =
    let parts = and_parts (below_all text_cmp e.0 es) (is_sorted text_cmp es) s in
    let c = cut_at e.0 low middle high below upto in
    let second = pairs_where (λ k. is_up_to middle k && is_below k high) es in
    ap (λ x. cond (is_up_to low e.0 && is_below e.0 middle) (e ∷ pairs_where (λ k. is_up_to low k && is_below k middle) es) (pairs_where (λ k. is_up_to low k && is_below k middle) es) ++ cond (x && is_below e.0 high) (e ∷ second) second) c.other
    ∙ pairs_by_tests (is_up_to low e.0) (is_below e.0 middle) (is_below e.0 high) e
    (pairs_where (λ k. is_up_to low k && is_below k middle) es) second (pairs_where (λ k. is_up_to low k && is_below k high) es)
    c.before c.after (λ h. none_below low middle e.0 es (up_to_from_not_below e.0 middle h) parts.0) (pairs_cut low middle high es parts.1 below upto)

-- no pair lies in an empty range
none_in_empty : (low high : Text) (t : Table) → low ≡ high → pairs_where (λ k. is_up_to low k && is_below k high) t ≡ []
none_in_empty low high [] e = refl
none_in_empty low high (p ∷ ps) e =
    ap (λ x. cond x (p ∷ pairs_where (λ k. is_up_to low k && is_below k high) ps) (pairs_where (λ k. is_up_to low k && is_below k high) ps)) (outside_empty low high p.0 e)
    ∙ none_in_empty low high ps e

have_pairs : (low high : Text) (rs : List Range) (t : Table) → is_sorted text_cmp t ≡ true → JoinFrom low high rs → flat_map (λ r. pairs_within r t) rs ≡ pairs_where (λ k. is_up_to low k && is_below k high) t
have_pairs low high [] t s j = sym (none_in_empty low high t j)
have_pairs low high (r ∷ rs) t s j =
    ap (λ u. pairs_within r t ++ u) (have_pairs r.high high rs t s j.2)
    ∙ pairs_cut r.low r.high high t s j.1 (joined_up_to r.high high rs j.2)
    ∙ ap (λ low'. pairs_where (λ k. is_up_to low' k && is_below k high) t) j.0

-- the pairs of a table in ranges that join to a range, one after another, are its pairs in that range
pub joined_have_pairs : JoinedHavePairs
joined_have_pairs whole rs t s j = have_pairs whole.low whole.high rs t s j

-- ---- where the ranges lie

-- between the bounds
abbrev Between : Text → Text → Range → Type 0
Between low high r = (is_up_to low r.low ≡ true) × (is_open r ≡ true) × (is_up_to r.high high ≡ true)

-- each of the ranges lies between the bounds
pub joined_between : (low high : Text) (rs : List Range) (r : Range) → JoinFrom low high rs → Has rs r → Between low high r
joined_between low high [] r j h = absurd h
joined_between low high (s ∷ rs) r j (inl e) =
    subst (Between low high) e (subst (λ t. is_up_to t s.low ≡ true) j.0 (up_to_itself s.low), j.1, joined_up_to s.high high rs j.2)
joined_between low high (s ∷ rs) r j (inr h) =
    let later = joined_between s.high high rs r j.2 h in
    let low_up : is_up_to low s.high ≡ true = subst (λ t. is_up_to t s.high ≡ true) j.0 (up_to_from_below s.low s.high j.1) in
    (up_to_trans low s.high r.low low_up later.0, later.1, later.2)

-- a range between the bounds of another lies in it
pub lies_from_bounds : (whole r : Range) → is_up_to whole.low r.low ≡ true → is_up_to r.high whole.high ≡ true → LiesIn whole r
lies_from_bounds whole r low high = record {
  low = low;
  high = high;
  keys = λ key h. let parts = and_parts (is_up_to r.low key) (is_below key r.high) h in
      and_from _ _ (up_to_trans whole.low r.low key low parts.0) (below_up_to key r.high whole.high parts.1 high);
}

-- each of the ranges lies in the whole
pub joined_has_in : (whole : Range) (rs : List Range) (r : Range) → JoinTo whole rs → Has rs r → LiesIn whole r
joined_has_in whole rs r j h = let b = joined_between whole.low whole.high rs r j h in lies_from_bounds whole r b.0 b.2

-- ranges that join to a range lie in it
pub joined_lie_in : JoinedLieIn
joined_lie_in whole rs r j h = joined_has_in whole rs r j (has_from_contains rs r h)

-- ranges that join to a range are of its table
pub joined_are_of_table : JoinedAreOfTable
joined_are_of_table whole rs r range j h =
    let b = joined_between whole.low whole.high rs r j (has_from_contains rs r h) in
    within_table whole r.low range (and_from _ _ b.0 (below_up_to r.low r.high whole.high b.1 b.2))
