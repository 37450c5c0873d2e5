-- Leaves one behind another: which one a key belongs to, and what becomes of all rows where one leaf changes.
use Rattle.std.proofs.Common.{◌≡◌, ℕ, zero, suc, ◌+◌, ◌<◌, ◌≤◌, Bool, true, false, not, cond, List, [], ◌∷◌, ◌++◌, length, take, drop, set, get_or, refl, sym, ap, ◌∙◌, subst, arith, Ordering, Less, Equal, Greater}
use Rattle.std.specs.Bool.{OnTrue}
use Rattle.std.specs.List.{AllByRecursion, flat_map}
use Rattle.std.specs.FinMap.Entries.{by_order, is_sorted, below_all}
use Rattle.std.proofs.lemmas.Bool.{and_parts}
use Rattle.std.proofs.lemmas.List.{append_assoc, take-append-drop, length-append, length-take-le, length-drop, length-set, nil_from_length, take_more, append-nil, get_or_default, get_or-set_same, drop_all}
use Rattle.std.proofs.lemmas.List.Edits.{length-remove}
use Rattle.std.proofs.lemmas.List.Concat.{flat_map-append}
use Rattle.semantics.specs.Texts.{Text, text_cmp, Table, with_pair, without_key, value_at}
use Rattle.semantics.proofs.TableLemmas.{IsAscending}
use Rattle.key_ranges.specs.Ranges.{is_below}
use Rattle.key_ranges.proofs.OrderLemmas.{up_to_from_not_below, below_up_to}
use Rattle.join_rows.specs.Laid.{IsRow, AreRows}
use Rattle.join_rows.specs.Found.{row_at, AllBelow, AllAbove}
use Rattle.join_rows.specs.Leaves.{all_rows, AreLeaves, IsLeafOf, AreCounted, leaf_at, by_rows, without_empty}
use Rattle.join_rows.proofs.AllLemmas.{all_append, all_at, all_left, all_right, all_weaker, all_set, all_remove}
use Rattle.join_rows.proofs.LaidLemmas.{rows-with_pair, rows-where}
use Rattle.join_rows.proofs.OrderedLemmas.{above_from, above_lower, halves, put_middle, without_middle, value_middle}

abbrev AreFilled : List Table → Type 0
AreFilled leaves = AllByRecursion (λ leaf. 0 < length leaf) leaves

-- the key of the first row of a leaf
abbrev pub first_key : ℕ → List Table → Text
first_key i leaves = (row_at 0 (get_or leaves i [])).0

-- ---- the leaf of a key

first_of : (P : Text × Text → Type 0) (leaf rest : Table) → 0 < length leaf → AllByRecursion P (leaf ++ rest) → P (row_at 0 leaf)
first_of P [] rest filled all = absurd (omega arith)
first_of P (r ∷ rs) rest filled all = all.0

-- what holds of all rows holds of the first of a leaf
first_in : (P : Text × Text → Type 0) (leaves : List Table) (i : ℕ) → AreFilled leaves → i < length leaves → AllByRecursion P (all_rows leaves) → P (row_at 0 (get_or leaves i []))
first_in P [] i filled within all = absurd (omega arith)
first_in P (l ∷ ls) zero filled within all = first_of P l (all_rows ls) filled.0 all
first_in P (l ∷ ls) (suc i) filled within all = first_in P ls i filled.1 (omega arith) (all_right P l (all_rows ls) all)

below_first : (key : Text) (leaves : List Table) (i : ℕ) → AreFilled leaves → IsAscending (all_rows leaves) → i < length leaves → is_below key (first_key i leaves) ≡ false → AllBelow key (all_rows (take i leaves))
below_first key [] i filled h within not = absurd (omega arith)
below_first key (l ∷ ls) zero filled h within not = tt
below_first key (l ∷ ls) (suc i) filled h within not =
    let parts = halves l (all_rows ls) h in
    let upto = up_to_from_not_below key (first_key i ls) not in
    all_append (λ (row : Text × Text). is_below row.0 key ≡ true) l (all_rows (take i ls))
    (all_weaker (λ (row : Text × Text). AllAbove row.0 (all_rows ls)) (λ (row : Text × Text). is_below row.0 key ≡ true) (λ row above.
    below_up_to row.0 (first_key i ls) key (first_in (λ (r : Text × Text). is_below row.0 r.0 ≡ true) ls i filled.1 (omega arith) above) upto) l parts.apart)
    (below_first key ls i filled.1 parts.second (omega arith) not)

above_leaf : (key : Text) (leaf rest : Table) → 0 < length leaf → IsAscending (leaf ++ rest) → is_below key (row_at 0 leaf).0 ≡ true → AllAbove key (leaf ++ rest)
above_leaf key [] rest filled h less = absurd (omega arith)
above_leaf key (r ∷ rs) rest filled h less =
    (less, above_lower key r.0 (rs ++ rest) less (above_from r.0 (rs ++ rest) (and_parts (below_all text_cmp r.0 (rs ++ rest)) (is_sorted text_cmp (rs ++ rest)) h).0))

above_first : (key : Text) (leaves : List Table) (i : ℕ) → AreFilled leaves → IsAscending (all_rows leaves) → i < length leaves → is_below key (first_key i leaves) ≡ true → AllAbove key (all_rows (drop i leaves))
above_first key [] i filled h within less = absurd (omega arith)
above_first key (l ∷ ls) zero filled h within less = above_leaf key l (all_rows ls) filled.0 h less
above_first key (l ∷ ls) (suc i) filled h within less = above_first key ls i filled.1 (halves l (all_rows ls) h).second (omega arith) less

pub below_leaf : (key : Text) (leaves : List Table) (i : ℕ) → AreLeaves leaves → i < length leaves → is_below key (first_key i leaves) ≡ false → AllBelow key (all_rows (take i leaves))
below_leaf key leaves i are within not = below_first key leaves i are.filled are.rows.ascending within not

pub above_from_leaf : (key : Text) (leaves : List Table) (i : ℕ) → AreLeaves leaves → i < length leaves → is_below key (first_key i leaves) ≡ true → AllAbove key (all_rows (drop i leaves))
above_from_leaf key leaves i are within less = above_first key leaves i are.filled are.rows.ascending within less

-- a leaf that is read
pub filled_at : (leaves : List Table) (i : ℕ) (leaf : Table) → AreLeaves leaves → i < length leaves → leaf ≡ get_or leaves i leaf → 0 < length leaf
filled_at leaves i leaf are within is = subst (λ (t : Table). 0 < length t) (sym is) (all_at (λ (t : Table). 0 < length t) leaves i leaf within are.filled)

first_read : (leaves : List Table) (i : ℕ) (leaf : Table) → i < length leaves → leaf ≡ get_or leaves i leaf → (row_at 0 leaf).0 ≡ first_key i leaves
first_read leaves i leaf within is = ap (λ (t : Table). (row_at 0 t).0) (is ∙ get_or_default leaves i leaf [] within)

pub below_read : (key : Text) (leaves : List Table) (i : ℕ) (leaf : Table) → AreLeaves leaves → i < length leaves → leaf ≡ get_or leaves i leaf → is_below key (row_at 0 leaf).0 ≡ false → AllBelow key (all_rows (take i leaves))
below_read key leaves i leaf are within is not = below_leaf key leaves i are within (ap (is_below key) (sym (first_read leaves i leaf within is)) ∙ not)

pub above_read : (key : Text) (leaves : List Table) (i : ℕ) (leaf : Table) → AreLeaves leaves → i < length leaves → leaf ≡ get_or leaves i leaf → is_below key (row_at 0 leaf).0 ≡ true → AllAbove key (all_rows (drop i leaves))
above_read key leaves i leaf are within is less = above_from_leaf key leaves i are within (ap (is_below key) (sym (first_read leaves i leaf within is)) ∙ less)

pub none_above_all : (key : Text) (leaves : List Table) (n : ℕ) → length leaves ≤ n → AllAbove key (all_rows (drop n leaves))
none_above_all key leaves n h = subst (λ (ls : List Table). AllAbove key (all_rows ls)) (sym (drop_all n leaves h)) tt

-- a key that is not below the last leaf stands in it, or would
pub last_leaf : (key : Text) (leaves : List Table) (i : ℕ) (leaf : Table) (before : Bool) → AreLeaves leaves → suc i ≡ length leaves → leaf ≡ get_or leaves i leaf → before ≡ is_below key (row_at 0 leaf).0 → OnTrue (not before) (IsLeafOf key leaves i)
last_leaf key leaves i leaf true are e is before = tt
last_leaf key leaves i leaf false are e is before = record {
  inside = omega arith;
  below = below_read key leaves i leaf are (omega arith) is (sym before);
  above = none_above_all key leaves (suc i) (omega arith);
}

-- ---- one leaf among the others

pub rows_split : (leaves : List Table) (i : ℕ) (d : Table) → i < length leaves → all_rows leaves ≡ all_rows (take i leaves) ++ (get_or leaves i d ++ all_rows (drop (suc i) leaves))
rows_split [] i d within = absurd (omega arith)
rows_split (l ∷ ls) zero d within = refl
rows_split (l ∷ ls) (suc i) d within = ap (λ t. l ++ t) (rows_split ls i d (omega arith)) ∙ sym (append_assoc l (all_rows (take i ls)) (get_or ls i d ++ all_rows (drop (suc i) ls)))

pub rows_set : (leaves : List Table) (i : ℕ) (new : Table) → i < length leaves → all_rows (set leaves i new) ≡ all_rows (take i leaves) ++ (new ++ all_rows (drop (suc i) leaves))
rows_set [] i new within = absurd (omega arith)
rows_set (l ∷ ls) zero new within = refl
rows_set (l ∷ ls) (suc i) new within = ap (λ t. l ++ t) (rows_set ls i new (omega arith)) ∙ sym (append_assoc l (all_rows (take i ls)) (new ++ all_rows (drop (suc i) ls)))

pub rows_remove : (leaves : List Table) (i : ℕ) → all_rows (take i leaves ++ drop (suc i) leaves) ≡ all_rows (take i leaves) ++ all_rows (drop (suc i) leaves)
rows_remove [] zero = refl
rows_remove [] (suc i) = refl
rows_remove (l ∷ ls) zero = refl
rows_remove (l ∷ ls) (suc i) = ap (λ t. l ++ t) (rows_remove ls i) ∙ sym (append_assoc l (all_rows (take i ls)) (all_rows (drop (suc i) ls)))

filled_by : (key value : Text) (r : Text × Text) (rs more : Table) (o : Ordering) → 0 < length (by_order o ((key, value) ∷ r ∷ rs) ((r.0, value) ∷ rs) (r ∷ more))
filled_by key value r rs more Less = omega arith
filled_by key value r rs more Equal = omega arith
filled_by key value r rs more Greater = omega arith

-- a table with a pair has one
pub filled_put : (key value : Text) (rows : Table) → 0 < length (with_pair key value rows)
filled_put key value [] = omega arith
filled_put key value (r ∷ rs) = filled_by key value r rs (with_pair key value rs) (text_cmp key r.0)

-- leaves with all rows of a table
pub record LeavesOf (rows : Table) (leaves : List Table) : Type 0 where
  pub are : AreLeaves leaves
  pub is : all_rows leaves ≡ rows

pub leaves_of : (rows : Table) (leaves : List Table) → AreFilled leaves → all_rows leaves ≡ rows → AreRows rows → LeavesOf rows leaves
leaves_of rows leaves filled is h = record { are = record { filled = filled; rows = subst (λ (t : Table). AreRows t) (sym is) h }; is = is }

module _ (key : Text) (leaves : List Table) (i : ℕ) (are : AreLeaves leaves) (of : IsLeafOf key leaves i) where
  -- one pair more in the leaf of its key is one more among all
  pub put_in_leaf : (value : Text) (d : Table) → IsRow (key, value) → LeavesOf (with_pair key value (all_rows leaves)) (set leaves i (with_pair key value (get_or leaves i d)))
  put_in_leaf value d own = leaves_of (with_pair key value (all_rows leaves)) (set leaves i (with_pair key value (get_or leaves i d)))
      (all_set (λ (leaf : Table). 0 < length leaf) leaves i (with_pair key value (get_or leaves i d)) (filled_put key value (get_or leaves i d)) are.filled)
      (rows_set leaves i (with_pair key value (get_or leaves i d)) of.inside
      ∙ sym (ap (with_pair key value) (rows_split leaves i d of.inside) ∙ put_middle key value (all_rows (take i leaves)) (get_or leaves i d) (all_rows (drop (suc i) leaves)) of.below of.above))
      (rows-with_pair key value (all_rows leaves) own are.rows)

  without_in : (d : Table) → all_rows (take i leaves) ++ (without_key key (get_or leaves i d) ++ all_rows (drop (suc i) leaves)) ≡ without_key key (all_rows leaves)
  without_in d = sym (ap (without_key key) (rows_split leaves i d of.inside) ∙ without_middle key (all_rows (take i leaves)) (get_or leaves i d) (all_rows (drop (suc i) leaves)) of.below of.above)

  -- without the key, where its leaf keeps a row
  pub remove_in_leaf : (d : Table) → 0 < length (without_key key (get_or leaves i d)) → LeavesOf (without_key key (all_rows leaves)) (set leaves i (without_key key (get_or leaves i d)))
  remove_in_leaf d some = leaves_of (without_key key (all_rows leaves)) (set leaves i (without_key key (get_or leaves i d)))
      (all_set (λ (leaf : Table). 0 < length leaf) leaves i (without_key key (get_or leaves i d)) some are.filled)
      (rows_set leaves i (without_key key (get_or leaves i d)) of.inside ∙ without_in d)
      (rows-where _ (all_rows leaves) are.rows)

  -- and where it does not, its leaf goes
  pub remove_leaf : (d : Table) → length (without_key key (get_or leaves i d)) ≡ 0 → LeavesOf (without_key key (all_rows leaves)) (take i leaves ++ drop (suc i) leaves)
  remove_leaf d none =
      let nothing : [] ≡ without_key key (get_or leaves i d) = sym (nil_from_length (without_key key (get_or leaves i d)) none) in
      leaves_of (without_key key (all_rows leaves)) (take i leaves ++ drop (suc i) leaves)
      (all_remove (λ (leaf : Table). 0 < length leaf) leaves i are.filled)
      (rows_remove leaves i ∙ ap (λ (t : Table). all_rows (take i leaves) ++ (t ++ all_rows (drop (suc i) leaves))) nothing ∙ without_in d)
      (rows-where _ (all_rows leaves) are.rows)

  -- the value at the key is the one that its leaf has
  pub value_in_leaf : (d : Table) → value_at key (all_rows leaves) ≡ value_at key (get_or leaves i d)
  value_in_leaf d = ap (value_at key) (rows_split leaves i d of.inside) ∙ value_middle key (all_rows (take i leaves)) (get_or leaves i d) (all_rows (drop (suc i) leaves)) of.below of.above

  -- the same, of a leaf that is read and written
  pub put_leaf : (value : Text) (d leaf new : Table) → IsRow (key, value) → leaf ≡ get_or leaves i d → new ≡ with_pair key value leaf → LeavesOf (with_pair key value (all_rows leaves)) (set leaves i new)
  put_leaf value d leaf new own is made =
      subst (λ (t : Table). LeavesOf (with_pair key value (all_rows leaves)) (set leaves i t)) (sym (made ∙ ap (with_pair key value) is)) (put_in_leaf value d own)

  pub keep_leaf : (d leaf new : Table) → leaf ≡ get_or leaves i d → new ≡ without_key key leaf → 0 < length new → LeavesOf (without_key key (all_rows leaves)) (set leaves i new)
  keep_leaf d leaf new is made some =
      let same = made ∙ ap (without_key key) is in
      subst (λ (t : Table). LeavesOf (without_key key (all_rows leaves)) (set leaves i t)) (sym same) (remove_in_leaf d (subst (λ (t : Table). 0 < length t) same some))

  pub lose_leaf : (d leaf new : Table) → leaf ≡ get_or leaves i d → new ≡ without_key key leaf → length new ≡ 0 → LeavesOf (without_key key (all_rows leaves)) (take i leaves ++ drop (suc i) leaves)
  lose_leaf d leaf new is made none = remove_leaf d (ap length (sym (made ∙ ap (without_key key) is)) ∙ none)

-- ---- a leaf that is cut in two

cut_rows : (leaves : List Table) (i n : ℕ) (d : Table) → i < length leaves →
    all_rows (set (take (suc i) leaves ++ drop n (get_or leaves i d) ∷ drop (suc i) leaves) i (take n (get_or leaves i d))) ≡ all_rows leaves
cut_rows [] i n d within = absurd (omega arith)
cut_rows (l ∷ ls) zero n d within = sym (append_assoc (take n l) (drop n l) (all_rows ls)) ∙ ap (λ t. t ++ all_rows ls) (take-append-drop n l)
cut_rows (l ∷ ls) (suc i) n d within = ap (λ t. l ++ t) (cut_rows ls i n d (omega arith))

cut_filled : (leaves : List Table) (i n : ℕ) (d : Table) → AreFilled leaves → i < length leaves → 0 < n → n < length (get_or leaves i d) →
    AreFilled (set (take (suc i) leaves ++ drop n (get_or leaves i d) ∷ drop (suc i) leaves) i (take n (get_or leaves i d)))
cut_filled [] i n d filled within some less = absurd (omega arith)
cut_filled (l ∷ ls) zero n d filled within some less =
    (omega (arith, length-take-le n l (omega arith)), (omega (arith, length-drop n l), filled.1))
cut_filled (l ∷ ls) (suc i) n d filled within some less = (filled.0, cut_filled ls i n d filled.1 (omega arith) some less)

pub cut_leaf : (leaves : List Table) (i n : ℕ) (d : Table) → AreLeaves leaves → i < length leaves → 0 < n → n < length (get_or leaves i d) →
    LeavesOf (all_rows leaves) (set (take (suc i) leaves ++ drop n (get_or leaves i d) ∷ drop (suc i) leaves) i (take n (get_or leaves i d)))
cut_leaf leaves i n d are within some less =
    leaves_of (all_rows leaves) _ (cut_filled leaves i n d are.filled within some less) (cut_rows leaves i n d within) are.rows

pub cut_at : (leaves inserted : List Table) (i j n : ℕ) (d leaf new : Table) → AreLeaves leaves → i < length leaves → j ≡ suc i → 0 < n → n < length leaf → leaf ≡ get_or leaves i d →
    inserted ≡ take j leaves ++ drop n leaf ∷ drop j leaves → new ≡ take n leaf → LeavesOf (all_rows leaves) (set inserted i new)
cut_at leaves inserted i j n d leaf new are within e some less is made cut =
    let whole = made ∙ ap (λ m. take m leaves ++ drop n leaf ∷ drop m leaves) e ∙ ap (λ (t : Table). take (suc i) leaves ++ drop n t ∷ drop (suc i) leaves) is in
    let front = cut ∙ ap (λ (t : Table). take n t) is in
    subst (λ (ls : List Table). LeavesOf (all_rows leaves) (set ls i new)) (sym whole)
    (subst (λ (t : Table). LeavesOf (all_rows leaves) (set (take (suc i) leaves ++ drop n (get_or leaves i d) ∷ drop (suc i) leaves) i t)) (sym front)
    (cut_leaf leaves i n d are within some (subst (λ (t : Table). n < length t) is less)))

-- a leaf before one that is inserted
still : (leaves : List Table) (i : ℕ) (x d : Table) → i < length leaves → get_or (take (suc i) leaves ++ x ∷ drop (suc i) leaves) i d ≡ get_or leaves i d
still [] i x d within = absurd (omega arith)
still (l ∷ ls) zero x d within = refl
still (l ∷ ls) (suc i) x d within = still ls i x d (omega arith)

-- the same, where the leaf is read again behind the insert
pub cut_again : (leaves inserted : List Table) (i j n : ℕ) (rest again new : Table) → AreLeaves leaves → i < length leaves → j ≡ suc i → 0 < n → n < length (get_or leaves i []) →
    rest ≡ drop n (get_or leaves i []) → inserted ≡ take j leaves ++ rest ∷ drop j leaves → again ≡ get_or inserted i again → new ≡ take n again → LeavesOf (all_rows leaves) (set inserted i new)
cut_again leaves inserted i j n rest again new are within e some less tail made read cut =
    let whole : inserted ≡ take j leaves ++ drop n (get_or leaves i []) ∷ drop j leaves = made ∙ ap (λ (t : Table). take j leaves ++ t ∷ drop j leaves) tail in
    let later : inserted ≡ take (suc i) leaves ++ drop n (get_or leaves i []) ∷ drop (suc i) leaves = whole ∙ ap (λ m. take m leaves ++ drop n (get_or leaves i []) ∷ drop m leaves) e in
    let same : again ≡ get_or leaves i [] = read ∙ ap (λ (ls : List Table). get_or ls i again) later ∙ still leaves i (drop n (get_or leaves i [])) again within ∙ get_or_default leaves i again [] within in
    cut_at leaves inserted i j n [] (get_or leaves i []) new are within e some less refl whole (cut ∙ ap (λ (t : Table). take n t) same)

-- what an insert left where it found memory
pub made_by : (b : Bool) (made with_it without : List Table) → made ≡ cond b with_it without → b ≡ true → made ≡ with_it
made_by b made with_it without e is = e ∙ ap (λ t. cond t with_it without) is

-- ---- how many rows there are then

pub length-set_leaf : (leaves : List Table) (i : ℕ) (new d : Table) → i < length leaves → length (all_rows (set leaves i new)) + length (get_or leaves i d) ≡ length (all_rows leaves) + length new
length-set_leaf [] i new d within = absurd (omega arith)
length-set_leaf (l ∷ ls) zero new d within = omega (arith, length-append new (all_rows ls), length-append l (all_rows ls))
length-set_leaf (l ∷ ls) (suc i) new d within =
    omega (arith, length-append l (all_rows (set ls i new)), length-append l (all_rows ls), length-set_leaf ls i new d (omega arith))

pub length-remove_leaf : (leaves : List Table) (i : ℕ) (d : Table) → i < length leaves → length (all_rows (take i leaves ++ drop (suc i) leaves)) + length (get_or leaves i d) ≡ length (all_rows leaves)
length-remove_leaf [] i d within = absurd (omega arith)
length-remove_leaf (l ∷ ls) zero d within = omega (arith, length-append l (all_rows ls))
length-remove_leaf (l ∷ ls) (suc i) d within =
    omega (arith, length-append l (all_rows (take i ls ++ drop (suc i) ls)), length-append l (all_rows ls), length-remove_leaf ls i d (omega arith))

-- ---- a leaf that goes with its last row

-- a leaf without a row, and one with a row
pub by_none : (leaf : Table) (without with_it : List Table) → length leaf ≡ 0 → by_rows leaf without with_it ≡ without
by_none [] without with_it none = refl
by_none (r ∷ rs) without with_it none = absurd (omega arith)

pub by_some : (leaf : Table) (without with_it : List Table) → 0 < length leaf → by_rows leaf without with_it ≡ with_it
by_some [] without with_it some = absurd (omega arith)
by_some (r ∷ rs) without with_it some = refl

remove-set : (leaves : List Table) (i : ℕ) (new : Table) → take i (set leaves i new) ++ drop (suc i) (set leaves i new) ≡ take i leaves ++ drop (suc i) leaves
remove-set [] zero new = refl
remove-set [] (suc i) new = refl
remove-set (l ∷ ls) zero new = refl
remove-set (l ∷ ls) (suc i) new = ap (λ t. l ∷ t) (remove-set ls i new)

-- what is left where a leaf changed
left_by : (leaves : List Table) (i : ℕ) (new : Table) → i < length leaves → without_empty i (set leaves i new) ≡ by_rows new (take i leaves ++ drop (suc i) leaves) (set leaves i new)
left_by leaves i new within =
    ap (λ (t : Table). by_rows t (take i (set leaves i new) ++ drop (suc i) (set leaves i new)) (set leaves i new)) (get_or-set_same leaves i new [] within)
    ∙ ap (λ (ls : List Table). by_rows new ls (set leaves i new)) (remove-set leaves i new)

take-set : (leaves : List Table) (i : ℕ) (new : Table) → take i (set leaves i new) ≡ take i leaves
take-set [] zero new = refl
take-set [] (suc i) new = refl
take-set (l ∷ ls) zero new = refl
take-set (l ∷ ls) (suc i) new = ap (λ t. l ∷ t) (take-set ls i new)

take-remove : (leaves : List Table) (i : ℕ) → i < length leaves → take i (take i leaves ++ drop (suc i) leaves) ≡ take i leaves
take-remove [] i within = absurd (omega arith)
take-remove (l ∷ ls) zero within = refl
take-remove (l ∷ ls) (suc i) within = ap (λ t. l ∷ t) (take-remove ls i (omega arith))

-- the leaves that are left: one changed, and is gone if it has no row
module _ (leaves now : List Table) (i : ℕ) (leaf : Table) (within : i < length leaves) where
  kept_before : (new : Table) → now ≡ by_rows new (take i leaves ++ drop (suc i) leaves) (set leaves i new) → take i now ≡ take i leaves
  kept_before [] left = ap (λ (ls : List Table). take i ls) left ∙ take-remove leaves i within
  kept_before (r ∷ rs) left = ap (λ (ls : List Table). take i ls) left ∙ take-set leaves i (r ∷ rs)

  kept_inside : (new : Table) → now ≡ by_rows new (take i leaves ++ drop (suc i) leaves) (set leaves i new) → i ≤ length now
  kept_inside [] left = let whole = ap (λ (ls : List Table). length ls) left in omega (arith, whole, length-remove leaves i within)
  kept_inside (r ∷ rs) left = let whole = ap (λ (ls : List Table). length ls) left in omega (arith, whole, length-set leaves i (r ∷ rs))

  kept_length : (new : Table) → leaf ≡ get_or leaves i leaf → now ≡ by_rows new (take i leaves ++ drop (suc i) leaves) (set leaves i new) →
      length (all_rows now) + length leaf ≡ length (all_rows leaves) + length new
  kept_length [] is left =
      let whole = ap (λ (ls : List Table). length (all_rows ls)) left in
      let own = ap (λ (t : Table). length t) is in
      omega (arith, whole, own, length-remove_leaf leaves i leaf within)
  kept_length (r ∷ rs) is left =
      let whole = ap (λ (ls : List Table). length (all_rows ls)) left in
      let own = ap (λ (t : Table). length t) is in
      omega (arith, whole, own, length-set_leaf leaves i (r ∷ rs) leaf within)

  pub left_before : (new : Table) → now ≡ without_empty i (set leaves i new) → take i now ≡ take i leaves
  left_before new left = kept_before new (left ∙ left_by leaves i new within)

  pub left_inside : (new : Table) → now ≡ without_empty i (set leaves i new) → i ≤ length now
  left_inside new left = kept_inside new (left ∙ left_by leaves i new within)

  pub left_length : (new : Table) → leaf ≡ get_or leaves i leaf → now ≡ without_empty i (set leaves i new) → length (all_rows now) + length leaf ≡ length (all_rows leaves) + length new
  left_length new is left = kept_length new is (left ∙ left_by leaves i new within)

-- what holds of the leaves with the changed one, and without it where it is empty, holds of those that are left
kept_leaves : (rows : Table) (leaves now : List Table) (i : ℕ) (new : Table) → now ≡ by_rows new (take i leaves ++ drop (suc i) leaves) (set leaves i new) →
    (0 < length new → LeavesOf rows (set leaves i new)) → (length new ≡ 0 → LeavesOf rows (take i leaves ++ drop (suc i) leaves)) → LeavesOf rows now
kept_leaves rows leaves now i [] left some none = subst (λ (ls : List Table). LeavesOf rows ls) (sym left) (none refl)
kept_leaves rows leaves now i (r ∷ rs) left some none = subst (λ (ls : List Table). LeavesOf rows ls) (sym left) (some (omega arith))

pub left_leaves : (rows : Table) (leaves now : List Table) (i : ℕ) (new : Table) → i < length leaves → now ≡ without_empty i (set leaves i new) →
    (0 < length new → LeavesOf rows (set leaves i new)) → (length new ≡ 0 → LeavesOf rows (take i leaves ++ drop (suc i) leaves)) → LeavesOf rows now
left_leaves rows leaves now i new within left some none = kept_leaves rows leaves now i new (left ∙ left_by leaves i new within) some none

-- without a key
pub removed_left : (key : Text) (leaves now : List Table) (i : ℕ) (leaf new : Table) → AreLeaves leaves → IsLeafOf key leaves i → leaf ≡ get_or leaves i leaf → new ≡ without_key key leaf →
    now ≡ without_empty i (set leaves i new) → LeavesOf (without_key key (all_rows leaves)) now
removed_left key leaves now i leaf new are of is made left =
    left_leaves (without_key key (all_rows leaves)) leaves now i new of.inside left (keep_leaf key leaves i are of leaf leaf new is made) (lose_leaf key leaves i are of leaf leaf new is made)

-- ---- leaf after leaf

-- one leaf more
pub rows_more : (leaves : List Table) (i : ℕ) (d : Table) → i < length leaves → all_rows (take (i + 1) leaves) ≡ all_rows (take i leaves) ++ get_or leaves i d
rows_more leaves i d within =
    ap all_rows (take_more leaves i d within) ∙ flat_map-append (λ (leaf : Table). leaf) (take i leaves) (get_or leaves i d ∷ []) ∙ ap (λ t. all_rows (take i leaves) ++ t) (append-nil (get_or leaves i d))

-- leaves with their number of rows
pub counted_by : (rows : Table) (leaves : List Table) (count : ℕ) → LeavesOf rows leaves → count ≡ length rows → AreCounted leaves count
counted_by rows leaves count of number = record { leaves = of.are; number = number ∙ ap length (sym of.is) }

-- ---- the first leaf

pub first_leaf : (key value : Text) (leaves items : List Table) (leaf : Table) → IsRow (key, value) → length leaves ≡ 0 → leaf ≡ with_pair key value [] → items ≡ leaf ∷ [] →
    LeavesOf (with_pair key value (all_rows leaves)) items
first_leaf key value leaves items leaf own none made pushed =
    let nothing : leaves ≡ [] = nil_from_length leaves none in
    let whole : items ≡ ((key, value) ∷ []) ∷ [] = pushed ∙ ap (λ (t : Table). t ∷ []) made in
    subst (λ (ls : List Table). LeavesOf (with_pair key value (all_rows ls)) items) (sym nothing)
    (leaves_of ((key, value) ∷ []) items
    (subst (λ (ls : List Table). AreFilled ls) (sym whole) (omega arith, tt))
    (ap all_rows whole)
    (record { each = (own, tt); ascending = refl }))

pub first_counted : (key value : Text) (leaves items : List Table) (leaf : Table) → IsRow (key, value) → length leaves ≡ 0 → leaf ≡ with_pair key value [] → items ≡ leaf ∷ [] → AreCounted items 1
first_counted key value leaves items leaf own none made pushed =
    let one = ap (λ (ls : List Table). length (with_pair key value (all_rows ls))) (nil_from_length leaves none) in
    counted_by (with_pair key value (all_rows leaves)) items 1 (first_leaf key value leaves items leaf own none made pushed) (omega (arith, one))

-- where there is no leaf, there is no key
pub none_without : (key : Text) (leaves : List Table) → length leaves ≡ 0 → all_rows leaves ≡ without_key key (all_rows leaves)
none_without key [] none = refl
none_without key (l ∷ ls) none = absurd (omega arith)
