-- The rows of a range: between two places of a leaf, and between two leaves.
use Rattle.std.proofs.Common.{◌≡◌, ℕ, zero, suc, ◌+◌, ◌-◌, ◌<◌, ◌≤◌, Bool, true, false, not, ◌&&◌, List, [], ◌∷◌, ◌++◌, length, take, drop, get_or, refl, sym, ap, ◌∙◌, subst, arith, inl, inr, ⊎_elim, is_lt, append-nil}
use Rattle.std.specs.List.{AllByRecursion, flat_map}
use Rattle.std.specs.Ordering.{is_le}
use Rattle.std.proofs.lemmas.Bool.{cases_lt, and_left, and_right, and_from}
use Rattle.std.proofs.lemmas.List.{take-append-drop, drop-drop, drop-take, take_more, take_rest, get_or-drop, length-drop}
use Rattle.join_rows.proofs.LeafLemmas.{rows_more}
use Rattle.std.proofs.lemmas.List.Concat.{flat_map-append}
use Rattle.semantics.specs.Texts.{Text, Range, within, text_cmp, Table, pairs_within}
use Rattle.semantics.proofs.TableLemmas.{IsAscending}
use Rattle.key_ranges.specs.Ranges.{is_below}
use Rattle.key_ranges.proofs.OrderLemmas.{is_up_to, up_to-not_below, not_up_to_from_below, up_to_from_below, up_to_itself}
use Rattle.join_rows.specs.Laid.{IsRow}
use Rattle.join_rows.specs.Found.{row_at, AllBelow, AllAbove, NoneBelow, IsAt, IsGap, Parts}
use Rattle.join_rows.specs.Leaves.{all_rows, AreLeaves, IsLeafOf}
use Rattle.join_rows.proofs.AllLemmas.{all_right, all_weaker, all_take, all_drop}
use Rattle.join_rows.proofs.OrderedLemmas.{halves, keep_each, keep_none, where-append}
use Rattle.join_rows.proofs.FoundLemmas.{below_own, above_own}

-- ---- the place of a bound

pub none_below_above : (key : Text) (rows : Table) → AllAbove key rows → NoneBelow key rows
none_below_above key rows h = all_weaker (λ (row : Text × Text). is_below key row.0 ≡ true) (λ (row : Text × Text). is_up_to key row.0 ≡ true) (λ row less. up_to_from_below key row.0 less) rows h

drop_at_own : (rows : Table) (i : ℕ) → i < length rows → drop i rows ≡ (row_at i rows ∷ []) ++ drop (suc i) rows
drop_at_own [] i within = absurd (omega arith)
drop_at_own (r ∷ rs) zero within = refl
drop_at_own (r ∷ rs) (suc i) within = drop_at_own rs i (omega arith)

pub parts_at : (key : Text) (rows : Table) (i : ℕ) → IsAscending rows → IsAt key rows i → Parts key rows i
parts_at key rows i h there =
    let own : NoneBelow key ((row_at i rows ∷ []) ++ drop (suc i) rows) =
    (subst (λ k. is_up_to key k ≡ true) (sym there.is) (up_to_itself key), none_below_above key (drop (suc i) rows) (subst (λ k. AllAbove k (drop (suc i) rows)) there.is (above_own rows i h there.inside))) in
    let rest : drop i rows ≡ (row_at i rows ∷ []) ++ drop (suc i) rows = drop_at_own rows i there.inside in record {
      inside = omega (arith, there.inside);
      below = subst (λ k. AllBelow k (take i rows)) there.is (below_own rows i h there.inside);
      from = subst (λ (t : Table). NoneBelow key t) (sym rest) own;
    }

pub parts_gap : (key : Text) (rows : Table) (i : ℕ) → IsGap key rows i → Parts key rows i
parts_gap key rows i gap = record { inside = gap.inside; below = gap.below; from = none_below_above key (drop i rows) gap.above }

-- ---- rows inside a range, below it and above it

pub below_low : (range : Range) (rows : Table) → AllBelow range.low rows → AllByRecursion (λ row. within range row.0 ≡ false) rows
below_low range rows h =
    all_weaker (λ (row : Text × Text). is_below row.0 range.low ≡ true) (λ (row : Text × Text). within range row.0 ≡ false)
    (λ row less. and_left (is_up_to range.low row.0) (is_below row.0 range.high) (not_up_to_from_below row.0 range.low less)) rows h

not-true : (b : Bool) → not b ≡ true → b ≡ false
not-true true e = sym e
not-true false e = refl

not_below : (high key : Text) → is_up_to high key ≡ true → is_below key high ≡ false
not_below high key h = not-true (is_below key high) (sym (up_to-not_below high key) ∙ h)

pub up_from_high : (range : Range) (rows : Table) → NoneBelow range.high rows → AllByRecursion (λ row. within range row.0 ≡ false) rows
up_from_high range rows h =
    all_weaker (λ (row : Text × Text). is_up_to range.high row.0 ≡ true) (λ (row : Text × Text). within range row.0 ≡ false)
    (λ row up. and_right (is_up_to range.low row.0) (is_below row.0 range.high) (not_below range.high row.0 up)) rows h

inside : (range : Range) (rows : Table) → NoneBelow range.low rows → AllBelow range.high rows → AllByRecursion (λ row. within range row.0 ≡ true) rows
inside range [] low high = tt
inside range (r ∷ rs) low high = (and_from (is_up_to range.low r.0) (is_below r.0 range.high) low.0 high.0, inside range rs low.1 high.1)

-- ---- the rows of a leaf

between_by : (range : Range) (rows : Table) (from to : ℕ) → Parts range.low rows from → Parts range.high rows to → AllBelow range.high (take (to - from) (drop from rows))
between_by range rows from to low high = ⊎_elim
    (λ (less : to < from).
    let none : 0 ≡ to - from = omega arith in
    subst (λ n. AllBelow range.high (take n (drop from rows))) none tt)
    (λ (order : from ≤ to).
    let whole : from + (to - from) ≡ to = omega arith in
    subst (λ (t : Table). AllBelow range.high t) (drop-take from (to - from) rows)
    (all_drop (λ (row : Text × Text). is_below row.0 range.high ≡ true) from (take (from + (to - from)) rows) (subst (λ n. AllBelow range.high (take n rows)) (sym whole) high.below)))
    (cases_lt to from)

behind_by : (range : Range) (rows : Table) (from to : ℕ) → Parts range.high rows to → NoneBelow range.high (drop (to - from) (drop from rows))
behind_by range rows from to high =
    let same : to + (from - to) ≡ from + (to - from) = omega arith in
    subst (λ (t : Table). NoneBelow range.high t)
    (drop-drop (from - to) to rows ∙ ap (λ n. drop n rows) same ∙ sym (drop-drop (to - from) from rows))
    (all_drop (λ (row : Text × Text). is_up_to range.high row.0 ≡ true) (from - to) (drop to rows) high.from)

-- what lies between the places of the two bounds is the rows of the range
pub span_within : (range : Range) (rows : Table) (from to : ℕ) → Parts range.low rows from → Parts range.high rows to → take (to - from) (drop from rows) ≡ pairs_within range rows
span_within range rows from to low high =
    let rest = drop from rows in
    let middle = take (to - from) rest in
    let behind = drop (to - from) rest in
    let none_first : pairs_within range (take from rows) ≡ [] = keep_none (within range) (take from rows) (below_low range (take from rows) low.below) in
    let none_last : pairs_within range behind ≡ [] = keep_none (within range) behind (up_from_high range behind (behind_by range rows from to high)) in
    let each : pairs_within range middle ≡ middle =
    keep_each (within range) middle (inside range middle (all_take (λ (row : Text × Text). is_up_to range.low row.0 ≡ true) (to - from) rest low.from) (between_by range rows from to low high)) in
    sym (ap (pairs_within range) (sym (take-append-drop from rows)) ∙ where-append (within range) (take from rows) rest ∙ ap (λ t. t ++ pairs_within range rest) none_first
    ∙ ap (pairs_within range) (sym (take-append-drop (to - from) rest)) ∙ where-append (within range) middle behind ∙ ap (λ t. pairs_within range middle ++ t) none_last
    ∙ append-nil (pairs_within range middle) ∙ each)

-- ---- the leaves of a range

pub rows_cut : (leaves : List Table) (i : ℕ) → all_rows leaves ≡ all_rows (take i leaves) ++ all_rows (drop i leaves)
rows_cut leaves i = ap all_rows (sym (take-append-drop i leaves)) ∙ flat_map-append (λ (leaf : Table). leaf) (take i leaves) (drop i leaves)

pub leaves-drop : (leaves : List Table) (i : ℕ) → AreLeaves leaves → AreLeaves (drop i leaves)
leaves-drop leaves i are = record {
  filled = all_drop (λ (leaf : Table). 0 < length leaf) i leaves are.filled;
  rows = record {
    each = all_right (λ row. IsRow row) (all_rows (take i leaves)) (all_rows (drop i leaves)) (subst (λ (t : Table). AllByRecursion (λ row. IsRow row) t) (rows_cut leaves i) are.rows.each);
    ascending = (halves (all_rows (take i leaves)) (all_rows (drop i leaves)) (subst (λ (t : Table). IsAscending t) (rows_cut leaves i) are.rows.ascending)).second;
  };
}

-- no row of the range stands before the leaf of its first bound
pub within-from : (range : Range) (leaves : List Table) (i : ℕ) → AllBelow range.low (all_rows (take i leaves)) → pairs_within range (all_rows (drop i leaves)) ≡ pairs_within range (all_rows leaves)
within-from range leaves i below =
    sym (ap (pairs_within range) (rows_cut leaves i) ∙ where-append (within range) (all_rows (take i leaves)) (all_rows (drop i leaves))
    ∙ ap (λ t. t ++ pairs_within range (all_rows (drop i leaves))) (keep_none (within range) (all_rows (take i leaves)) (below_low range (all_rows (take i leaves)) below)))

-- nor behind the leaf of its last bound
pub within-upto : (range : Range) (leaves : List Table) (n : ℕ) → AllAbove range.high (all_rows (drop n leaves)) → pairs_within range (all_rows (take n leaves)) ≡ pairs_within range (all_rows leaves)
within-upto range leaves n above =
    sym (ap (pairs_within range) (rows_cut leaves n) ∙ where-append (within range) (all_rows (take n leaves)) (all_rows (drop n leaves))
    ∙ ap (λ t. pairs_within range (all_rows (take n leaves)) ++ t) (keep_none (within range) (all_rows (drop n leaves)) (up_from_high range (all_rows (drop n leaves)) (none_below_above range.high (all_rows (drop n leaves)) above)))
    ∙ append-nil (pairs_within range (all_rows (take n leaves))))

-- so the rows of the range stand in the leaves between
pub within-span : (range : Range) (leaves : List Table) (from to : ℕ) → from ≤ to → AllBelow range.low (all_rows (take from leaves)) → AllAbove range.high (all_rows (drop to leaves)) →
    pairs_within range (all_rows (take (to - from) (drop from leaves))) ≡ pairs_within range (all_rows leaves)
within-span range leaves from to order below above =
    let whole : from + (to - from) ≡ to = omega arith in
    let behind : drop (to - from) (drop from leaves) ≡ drop to leaves = drop-drop (to - from) from leaves ∙ ap (λ n. drop n leaves) whole in
    within-upto range (drop from leaves) (to - from) (subst (λ (ls : List Table). AllAbove range.high (all_rows ls)) (sym behind) above) ∙ within-from range leaves from below

-- ---- row after row

-- one row more from a place on
pub span_more : (rows : Table) (from place : ℕ) → from ≤ place → place < length rows → take (place + 1 - from) (drop from rows) ≡ take (place - from) (drop from rows) ++ row_at place rows ∷ []
span_more rows from place order within =
    let one : place + 1 - from ≡ (place - from) + 1 = omega arith in
    let there : from + (place - from) ≡ place = omega arith in
    ap (λ n. take n (drop from rows)) one
    ∙ take_more (drop from rows) (place - from) ([], []) (omega (arith, length-drop from rows))
    ∙ ap (λ (r : Text × Text). take (place - from) (drop from rows) ++ r ∷ []) (get_or-drop from rows (place - from) ([], []) ∙ ap (λ n. row_at n rows) there)

-- ---- leaf after leaf

-- the rows of one leaf more
pub within_leaf : (range : Range) (leaves : List Table) (i : ℕ) (leaf so_far more : Table) → i < length leaves → leaf ≡ get_or leaves i leaf → so_far ≡ pairs_within range (all_rows (take i leaves)) →
    more ≡ so_far ++ pairs_within range leaf → more ≡ pairs_within range (all_rows (take (i + 1) leaves))
within_leaf range leaves i leaf so_far more inside_it is before made =
    made ∙ ap (λ t. t ++ pairs_within range leaf) before ∙ ap (λ (t : Table). pairs_within range (all_rows (take i leaves)) ++ pairs_within range t) is
    ∙ sym (ap (pairs_within range) (rows_more leaves i leaf inside_it) ∙ where-append (within range) (all_rows (take i leaves)) (get_or leaves i leaf))

-- ---- the leaves behind the last bound

pub rest_leaves : (leaves : List Table) (i : ℕ) → AreLeaves leaves → AreLeaves (take (length leaves - i) (drop i leaves))
rest_leaves leaves i are = subst (λ (ls : List Table). AreLeaves ls) (sym (take_rest leaves i)) (leaves-drop leaves i are)

pub above_span : (high : Text) (leaves : List Table) (i last to : ℕ) → to ≡ i + last + 1 → IsLeafOf high (take (length leaves - i) (drop i leaves)) last → AllAbove high (all_rows (drop to leaves))
above_span high leaves i last to e of =
    let there : i + suc last ≡ to = omega arith in
    subst (λ (ls : List Table). AllAbove high (all_rows ls))
    (ap (drop (suc last)) (take_rest leaves i) ∙ drop-drop (suc last) i leaves ∙ ap (λ n. drop n leaves) there) of.above
