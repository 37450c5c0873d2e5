-- Rows that are left out, from the last one down: entries of a leaf, and leaves.
use Rattle.std.proofs.Common.{◌≡◌, ℕ, zero, suc, ◌+◌, ◌<◌, ◌≤◌, Bool, true, false, cond, not, List, [], ◌∷◌, ◌++◌, length, map, take, drop, set, get_or, refl, sym, ap, ◌∙◌, subst, arith, is_lt}
use Rattle.std.specs.List.{AllByRecursion}
use Rattle.std.specs.FinMap.Entries.{is_sorted, below_all}
use Rattle.std.proofs.lemmas.Bool.{and_parts, and_from, false≢true, false_from_ne_true, leb-true}
use Rattle.std.proofs.lemmas.List.{append_cancel_left, drop_all, take_all, append-nil, take-take, get_or-take, get_or_default, length-map, length-append, length-take-le, nil_from_length}
use Rattle.std.proofs.lemmas.List.Edits.{length-remove}
use Rattle.std.proofs.Math.Seq.{drop-cons}
use Rattle.semantics.specs.Texts.{Text, Range, within, is_key, names_table, text_cmp, Table, pairs_where}
use Rattle.semantics.proofs.TableLemmas.{IsAscending, ascending-pairs_where}
use Rattle.join_rows.specs.declared.entry.Entry.{Entry}
use Rattle.join_rows.specs.Laid.{row_of, rows_of, IsRow, AreRows, AreLaid, LaidAs}
use Rattle.join_rows.specs.Found.{row_at, AllBelow, AllAbove}
use Rattle.join_rows.specs.Leaves.{all_rows, AreLeaves, without_empty}
use Rattle.join_rows.proofs.AllLemmas.{all_append, all_left, all_right, all_weaker, all_filter, all_set, all_remove}
use Rattle.join_rows.proofs.OrderedLemmas.{AllBefore, halves, below_all_from, keep_each, where-append}
use Rattle.join_rows.proofs.LaidLemmas.{map_remove, laid_remove}
use Rattle.join_rows.proofs.LeafLemmas.{LeavesOf, leaves_of, rows_split, rows_set, rows_remove, left_leaves}
use Rattle.join_rows.proofs.WithinLemmas.{rows_cut, none_below_above, below_low, up_from_high}

-- the test that a row passes which stays
abbrev pub stays : (Text → Bool) → Text → Bool
stays fits key = not (fits key)

-- ---- from the last row down

module _ (fits : Text → Bool) where
  -- a row that goes
  pub where_gone : (rows : Table) (p : ℕ) → p < length rows → fits (row_at p rows).0 ≡ true → pairs_where (stays fits) (drop (suc p) rows) ≡ pairs_where (stays fits) (drop p rows)
  where_gone [] p within is = absurd (omega arith)
  where_gone (r ∷ rs) zero within is = sym (ap (λ b. cond (not b) (r ∷ pairs_where (stays fits) rs) (pairs_where (stays fits) rs)) is)
  where_gone (r ∷ rs) (suc p) within is = where_gone rs p (omega arith) is

  -- a row that stays
  pub where_stays : (rows : Table) (p : ℕ) → p < length rows → fits (row_at p rows).0 ≡ false → take (suc p) rows ++ pairs_where (stays fits) (drop (suc p) rows) ≡ take p rows ++ pairs_where (stays fits) (drop p rows)
  where_stays [] p within is = absurd (omega arith)
  where_stays (r ∷ rs) zero within is = sym (ap (λ b. cond (not b) (r ∷ pairs_where (stays fits) rs) (pairs_where (stays fits) rs)) is)
  where_stays (r ∷ rs) (suc p) within is = ap (λ t. r ∷ t) (where_stays rs p (omega arith) is)

-- the last row of a front, before others
row_top : (rows behind : Table) (p : ℕ) → p < length rows → row_at p (take (suc p) rows ++ behind) ≡ row_at p rows
row_top [] behind p within = absurd (omega arith)
row_top (r ∷ rs) behind zero within = refl
row_top (r ∷ rs) behind (suc p) within = row_top rs behind p (omega arith)

remove_top : (rows behind : Table) (p : ℕ) → p < length rows → take p (take (suc p) rows ++ behind) ++ drop (suc p) (take (suc p) rows ++ behind) ≡ take p rows ++ behind
remove_top [] behind p within = absurd (omega arith)
remove_top (r ∷ rs) behind zero within = refl
remove_top (r ∷ rs) behind (suc p) within = ap (λ t. r ∷ t) (remove_top rs behind p (omega arith))

-- the entries after the rows from a place on were looked at
pub record Thinned (fits : Text → Bool) (bytes : Text) (old now : List Entry) (place : ℕ) : Type 0 where
  pub laid : AreLaid bytes now
  pub rows : rows_of bytes now ≡ take place (rows_of bytes old) ++ pairs_where (stays fits) (drop place (rows_of bytes old))
  pub inside : place ≤ length now
  pub whole : place ≤ length old
  pub fewer : length now ≤ length old

module _ (fits : Text → Bool) (bytes : Text) (old now : List Entry) (n p : ℕ) (e : n ≡ suc p) (thinned : Thinned fits bytes old now n) where
  before : rows_of bytes now ≡ take (suc p) (rows_of bytes old) ++ pairs_where (stays fits) (drop (suc p) (rows_of bytes old))
  before = subst (λ m. rows_of bytes now ≡ take m (rows_of bytes old) ++ pairs_where (stays fits) (drop m (rows_of bytes old))) e thinned.rows

  short : p < length (rows_of bytes old)
  short = omega (arith, thinned.whole, e, length-map old (row_of bytes))

  pub row_looked : row_at p (rows_of bytes now) ≡ row_at p (rows_of bytes old)
  row_looked = ap (row_at p) before ∙ row_top (rows_of bytes old) (pairs_where (stays fits) (drop (suc p) (rows_of bytes old))) p short

  pub thinned_stays : fits (row_at p (rows_of bytes now)).0 ≡ false → Thinned fits bytes old now p
  thinned_stays not = record {
    laid = thinned.laid;
    rows = before ∙ where_stays fits (rows_of bytes old) p short (ap (λ (r : Text × Text). fits r.0) (sym row_looked) ∙ not);
    inside = omega (arith, thinned.inside, e);
    whole = omega (arith, thinned.whole, e);
    fewer = thinned.fewer;
  }

  pub thinned_gone : fits (row_at p (rows_of bytes now)).0 ≡ true → Thinned fits bytes old (take p now ++ drop (suc p) now) p
  thinned_gone is = record {
    laid = (laid_remove bytes now (row_at p (rows_of bytes now)).0 p thinned.laid (record { inside = omega (arith, thinned.inside, e, length-map now (row_of bytes)); is = refl })).laid;
    rows = map_remove (row_of bytes) now p ∙ ap (λ (t : Table). take p t ++ drop (suc p) t) before
        ∙ remove_top (rows_of bytes old) (pairs_where (stays fits) (drop (suc p) (rows_of bytes old))) p short
        ∙ ap (λ t. take p (rows_of bytes old) ++ t) (where_gone fits (rows_of bytes old) p short (ap (λ (r : Text × Text). fits r.0) (sym row_looked) ∙ is));
    inside = omega (arith, thinned.inside, e, length-append (take p now) (drop (suc p) now), length-take-le p now (omega (arith, thinned.inside, e)));
    whole = omega (arith, thinned.whole, e);
    fewer = omega (arith, thinned.fewer, length-remove now p (omega (arith, thinned.inside, e)));
  }

-- none is looked at yet, and all are
pub thinned_none : (fits : Text → Bool) (bytes : Text) (old : List Entry) (n : ℕ) → n ≡ length old → AreLaid bytes old → Thinned fits bytes old old n
thinned_none fits bytes old n e laid =
    let enough : length (rows_of bytes old) ≤ n = omega (arith, e, length-map old (row_of bytes)) in record {
      laid = laid;
      rows = sym (ap (λ (t : Table). t ++ pairs_where (stays fits) (drop n (rows_of bytes old))) (take_all n (rows_of bytes old) enough)
          ∙ ap (λ (t : Table). rows_of bytes old ++ pairs_where (stays fits) t) (drop_all n (rows_of bytes old) enough) ∙ append-nil (rows_of bytes old));
      inside = omega (arith, e);
      whole = omega (arith, e);
      fewer = omega arith;
    }

pub thinned_all : (fits : Text → Bool) (bytes : Text) (old now : List Entry) (n : ℕ) → n ≡ 0 → Thinned fits bytes old now n → LaidAs (pairs_where (stays fits) (rows_of bytes old)) bytes now
thinned_all fits bytes old now n e thinned = record {
  laid = thinned.laid;
  is = subst (λ m. rows_of bytes now ≡ take m (rows_of bytes old) ++ pairs_where (stays fits) (drop m (rows_of bytes old))) e thinned.rows;
}

-- ---- one leaf of several

join_below : (x : Text) (a b : Table) → below_all text_cmp x a ≡ true → AllAbove x b → below_all text_cmp x (a ++ b) ≡ true
join_below x [] b h above = below_all_from x b above
join_below x (r ∷ a) b h above =
    let p = and_parts (is_lt (text_cmp x r.0)) (below_all text_cmp x a) h in
    and_from (is_lt (text_cmp x r.0)) (below_all text_cmp x (a ++ b)) p.0 (join_below x a b p.1 above)

joined : (a b : Table) → IsAscending a → IsAscending b → AllBefore a b → IsAscending (a ++ b)
joined [] b h g apart = g
joined (r ∷ a) b h g apart =
    let p = and_parts (below_all text_cmp r.0 a) (is_sorted text_cmp a) h in
    and_from (below_all text_cmp r.0 (a ++ b)) (is_sorted text_cmp (a ++ b)) (join_below r.0 a b p.0 apart.0) (joined a b p.1 g apart.1)

-- rows of which some in the middle are left out
rows-thinned : (test : Text → Bool) (a b c : Table) → AreRows (a ++ (b ++ c)) → AreRows (a ++ (pairs_where test b ++ c))
rows-thinned test a b c are =
    let first = halves a (b ++ c) are.ascending in
    let second = halves b c first.second in
    let each = all_right (λ row. IsRow row) a (b ++ c) are.each in record {
      each = all_append (λ row. IsRow row) a (pairs_where test b ++ c) (all_left (λ row. IsRow row) a (b ++ c) are.each)
          (all_append (λ row. IsRow row) (pairs_where test b) c (all_filter (λ row. IsRow row) (λ e. test e.0) b (all_left (λ row. IsRow row) b c each)) (all_right (λ row. IsRow row) b c each));
      ascending = joined a (pairs_where test b ++ c) first.first
          (joined (pairs_where test b) c (ascending-pairs_where test b second.first) second.second (all_filter (λ (row : Text × Text). AllAbove row.0 c) (λ e. test e.0) b second.apart))
          (all_weaker (λ (row : Text × Text). AllAbove row.0 (b ++ c)) (λ (row : Text × Text). AllAbove row.0 (pairs_where test b ++ c)) (λ row above.
          all_append (λ (r : Text × Text). is_lt (text_cmp row.0 r.0) ≡ true) (pairs_where test b) c
          (all_filter (λ (r : Text × Text). is_lt (text_cmp row.0 r.0) ≡ true) (λ e. test e.0) b (all_left (λ (r : Text × Text). is_lt (text_cmp row.0 r.0) ≡ true) b c above))
          (all_right (λ (r : Text × Text). is_lt (text_cmp row.0 r.0) ≡ true) b c above)) a first.apart);
    }

-- the rows after one leaf was looked at
abbrev pub without_some : (Text → Bool) → List Table → ℕ → Table → Table
without_some fits leaves i d = all_rows (take i leaves) ++ (pairs_where (stays fits) (get_or leaves i d) ++ all_rows (drop (suc i) leaves))

module _ (fits : Text → Bool) (leaves : List Table) (i : ℕ) (d : Table) (are : AreLeaves leaves) (within : i < length leaves) where
  rows_left : AreRows (without_some fits leaves i d)
  rows_left = rows-thinned (stays fits) (all_rows (take i leaves)) (get_or leaves i d) (all_rows (drop (suc i) leaves)) (subst (λ (t : Table). AreRows t) (rows_split leaves i d within) are.rows)

  -- where the leaf keeps a row
  pub leaf_thinned : 0 < length (pairs_where (stays fits) (get_or leaves i d)) → LeavesOf (without_some fits leaves i d) (set leaves i (pairs_where (stays fits) (get_or leaves i d)))
  leaf_thinned some = leaves_of (without_some fits leaves i d) (set leaves i (pairs_where (stays fits) (get_or leaves i d)))
      (all_set (λ (leaf : Table). 0 < length leaf) leaves i (pairs_where (stays fits) (get_or leaves i d)) some are.filled)
      (rows_set leaves i (pairs_where (stays fits) (get_or leaves i d)) within) rows_left

  -- where it does not, it goes
  pub leaf_gone : length (pairs_where (stays fits) (get_or leaves i d)) ≡ 0 → LeavesOf (without_some fits leaves i d) (take i leaves ++ drop (suc i) leaves)
  leaf_gone none =
      let nothing : [] ≡ pairs_where (stays fits) (get_or leaves i d) = sym (nil_from_length (pairs_where (stays fits) (get_or leaves i d)) none) in
      leaves_of (without_some fits leaves i d) (take i leaves ++ drop (suc i) leaves)
      (all_remove (λ (leaf : Table). 0 < length leaf) leaves i are.filled)
      (rows_remove leaves i ∙ ap (λ (t : Table). all_rows (take i leaves) ++ (t ++ all_rows (drop (suc i) leaves))) nothing) rows_left

-- the leaves that are left where one was looked at
pub thinned_left : (fits : Text → Bool) (leaves now : List Table) (i : ℕ) (leaf new : Table) → AreLeaves leaves → i < length leaves → leaf ≡ get_or leaves i leaf → new ≡ pairs_where (stays fits) leaf →
    now ≡ without_empty i (set leaves i new) → LeavesOf (without_some fits leaves i []) now
thinned_left fits leaves now i leaf new are within is made left =
    let same : new ≡ pairs_where (stays fits) (get_or leaves i []) = made ∙ ap (pairs_where (stays fits)) (is ∙ get_or_default leaves i leaf [] within) in
    left_leaves (without_some fits leaves i []) leaves now i new within left
    (λ some. subst (λ (t : Table). LeavesOf (without_some fits leaves i []) (set leaves i t)) (sym same) (leaf_thinned fits leaves i [] are within (subst (λ (t : Table). 0 < length t) same some)))
    (λ none. leaf_gone fits leaves i [] are within (ap (λ (t : Table). length t) (sym same) ∙ none))

-- ---- the leaves from the last one down

-- the leaves after those from a place on were looked at
pub record LeavesThinned (fits : Text → Bool) (old now : List Table) (place : ℕ) : Type 0 where
  pub are : AreLeaves now
  pub rows : all_rows now ≡ all_rows (take place old) ++ pairs_where (stays fits) (all_rows (drop place old))
  pub before : take place now ≡ take place old
  pub inside : place ≤ length now
  pub whole : place ≤ length old

module _ (fits : Text → Bool) (old now next : List Table) (n p : ℕ) (d : Table) (e : n ≡ suc p) (thinned : LeavesThinned fits old now n) where
  front : take (suc p) now ≡ take (suc p) old
  front = subst (λ m. take m now ≡ take m old) e thinned.before

  leaf_same : get_or now p d ≡ get_or old p d
  leaf_same = sym (get_or-take (suc p) now p d (omega arith)) ∙ ap (λ (ls : List Table). get_or ls p d) front ∙ get_or-take (suc p) old p d (omega arith)

  fewer_same : take p now ≡ take p old
  fewer_same = sym (take-take p (suc p) now (omega arith)) ∙ ap (take p) front ∙ take-take p (suc p) old (omega arith)

  rest_same : all_rows (drop (suc p) now) ≡ pairs_where (stays fits) (all_rows (drop (suc p) old))
  rest_same = append_cancel_left (all_rows (take (suc p) old)) (all_rows (drop (suc p) now)) (pairs_where (stays fits) (all_rows (drop (suc p) old)))
      (ap (λ (ls : List Table). all_rows ls ++ all_rows (drop (suc p) now)) (sym front) ∙ sym (rows_cut now (suc p))
      ∙ subst (λ m. all_rows now ≡ all_rows (take m old) ++ pairs_where (stays fits) (all_rows (drop m old))) e thinned.rows)

  drop_one : p < length old → all_rows (drop p old) ≡ get_or old p d ++ all_rows (drop (suc p) old)
  drop_one within = ap all_rows (drop-cons old p d within)

  pub leaves_thinned : AreLeaves next → all_rows next ≡ without_some fits now p d → take p next ≡ take p now → p ≤ length next → LeavesThinned fits old next p
  leaves_thinned are rows before inside = record {
    are = are;
    rows = rows ∙ ap (λ (ls : List Table). all_rows ls ++ (pairs_where (stays fits) (get_or now p d) ++ all_rows (drop (suc p) now))) fewer_same
        ∙ ap (λ (leaf : Table). all_rows (take p old) ++ (pairs_where (stays fits) leaf ++ all_rows (drop (suc p) now))) leaf_same
        ∙ ap (λ (t : Table). all_rows (take p old) ++ (pairs_where (stays fits) (get_or old p d) ++ t)) rest_same
        ∙ ap (λ (t : Table). all_rows (take p old) ++ t) (sym (where-append (stays fits) (get_or old p d) (all_rows (drop (suc p) old))) ∙ ap (pairs_where (stays fits)) (sym (drop_one (omega (arith, thinned.whole, e)))));
    before = before ∙ fewer_same;
    inside = inside;
    whole = omega (arith, thinned.whole, e);
  }

-- none is looked at yet, and all are
pub leaves_none : (fits : Text → Bool) (old : List Table) (n : ℕ) → n ≤ length old → AreLeaves old → pairs_where (stays fits) (all_rows (drop n old)) ≡ all_rows (drop n old) → LeavesThinned fits old old n
leaves_none fits old n within are behind = record {
  are = are;
  rows = rows_cut old n ∙ ap (λ t. all_rows (take n old) ++ t) (sym behind);
  before = refl;
  inside = within;
  whole = within;
}

pub leaves_all : (fits : Text → Bool) (old now : List Table) (n m : ℕ) → n ≡ m → LeavesThinned fits old now n → pairs_where (stays fits) (all_rows (take m old)) ≡ all_rows (take m old) →
    all_rows now ≡ pairs_where (stays fits) (all_rows old)
leaves_all fits old now n m e thinned front =
    subst (λ k. all_rows now ≡ all_rows (take k old) ++ pairs_where (stays fits) (all_rows (drop k old))) e thinned.rows
    ∙ ap (λ t. t ++ pairs_where (stays fits) (all_rows (drop m old))) (sym front)
    ∙ sym (where-append (stays fits) (all_rows (take m old)) (all_rows (drop m old))) ∙ ap (pairs_where (stays fits)) (sym (rows_cut old m))

-- ---- where no row can fit

-- a key has at most 512 bytes
small : (row : Text × Text) → IsRow row → length row.0 ≤ 512
small row own = leb-true (length row.0) 512 (and_parts _ (names_table row.0) own.key).0

stays_outside : (fits : Text → Bool) (range : Range) (row : Text × Text) → ((key : Text) → length key ≤ 512 → fits key ≡ true → within range key ≡ true) → IsRow row → within range row.0 ≡ false → stays fits row.0 ≡ true
stays_outside fits range row holds own out = ap not (false_from_ne_true (fits row.0) (λ f. false≢true (sym out ∙ holds row.0 (small row own) f)))

each_stays : (fits : Text → Bool) (range : Range) (rows : Table) → ((key : Text) → length key ≤ 512 → fits key ≡ true → within range key ≡ true) →
    AllByRecursion (λ row. IsRow row) rows → AllByRecursion (λ row. within range row.0 ≡ false) rows → AllByRecursion (λ row. stays fits row.0 ≡ true) rows
each_stays fits range [] holds own out = tt
each_stays fits range (r ∷ rs) holds own out = (stays_outside fits range r holds own.0 out.0, each_stays fits range rs holds own.1 out.1)

-- outside the range that holds each key which fits, all rows stay
pub stay_outside : (fits : Text → Bool) (range : Range) (rows : Table) → ((key : Text) → length key ≤ 512 → fits key ≡ true → within range key ≡ true) →
    AllByRecursion (λ row. IsRow row) rows → AllByRecursion (λ row. within range row.0 ≡ false) rows → pairs_where (stays fits) rows ≡ rows
stay_outside fits range rows holds own out = keep_each (stays fits) rows (each_stays fits range rows holds own out)

module _ (fits : Text → Bool) (range : Range) (leaves : List Table) (n : ℕ) (are : AreLeaves leaves) (holds : (key : Text) → length key ≤ 512 → fits key ≡ true → within range key ≡ true) where
  -- the leaves before the range stay as they are
  pub stay_before : AllBelow range.low (all_rows (take n leaves)) → pairs_where (stays fits) (all_rows (take n leaves)) ≡ all_rows (take n leaves)
  stay_before below = stay_outside fits range (all_rows (take n leaves)) holds
      (all_left (λ row. IsRow row) (all_rows (take n leaves)) (all_rows (drop n leaves)) (subst (λ (t : Table). AllByRecursion (λ row. IsRow row) t) (rows_cut leaves n) are.rows.each))
      (below_low range (all_rows (take n leaves)) below)

  -- and those behind it
  pub stay_behind : AllAbove range.high (all_rows (drop n leaves)) → pairs_where (stays fits) (all_rows (drop n leaves)) ≡ all_rows (drop n leaves)
  stay_behind above = stay_outside fits range (all_rows (drop n leaves)) holds
      (all_right (λ row. IsRow row) (all_rows (take n leaves)) (all_rows (drop n leaves)) (subst (λ (t : Table). AllByRecursion (λ row. IsRow row) t) (rows_cut leaves n) are.rows.each))
      (up_from_high range (all_rows (drop n leaves)) (none_below_above range.high (all_rows (drop n leaves)) above))

-- where no key fits, all rows stay
pub stay_all : (fits : Text → Bool) (rows : Table) → ((key : Text) → length key ≤ 512 → fits key ≡ true → ⊥) → AllByRecursion (λ row. IsRow row) rows → pairs_where (stays fits) rows ≡ rows
stay_all fits rows none own = keep_each (stays fits) rows
    (all_weaker (λ row. IsRow row) (λ (row : Text × Text). stays fits row.0 ≡ true) (λ row is. ap not (false_from_ne_true (fits row.0) (λ f. none row.0 (small row is) f))) rows own)
