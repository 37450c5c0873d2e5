-- What a search among rows says of them.
use Rattle.std.proofs.Common.{◌≡◌, ℕ, zero, suc, ◌+◌, ◌<◌, ◌≤◌, true, List, [], ◌∷◌, ◌++◌, length, take, drop, set, get_or, Result, Ok, Err, Bool, false, cond, Option, Some, None, refl, sym, ap, ◌∙◌, subst, arith}
use Rattle.std.specs.FinMap.Entries.{is_sorted, below_all}
use Rattle.std.proofs.lemmas.Bool.{and_parts}
use Rattle.std.specs.Bool.{OnTrue}
use Rattle.std.specs.Result.{is_err}
use Rattle.std.proofs.lemmas.List.{take-append-drop, take_all, set_split, drop_all, length-set}
use Rattle.std.proofs.lemmas.List.Edits.{length-insert}
use Rattle.semantics.specs.Texts.{Text, text_cmp, Table, value_at, with_pair, without_key}
use Rattle.semantics.proofs.TableLemmas.{IsAscending}
use Rattle.key_ranges.specs.Ranges.{is_below}
use Rattle.join_rows.specs.Found.{row_at, AllBelow, AllAbove, IsAt, IsGap, Finds}
use Rattle.join_rows.proofs.OrderedLemmas.{below_trans, above_from, above_lower, put_middle, without_middle, value_middle, put_one, without_one, value_one}

-- ---- one row against the others

pub below_at : (x : Text) (rows : Table) (i : ℕ) → below_all text_cmp x rows ≡ true → i < length rows → is_below x (row_at i rows).0 ≡ true
below_at x [] i h within = absurd (omega arith)
below_at x (r ∷ rs) zero h within = (and_parts (is_below x r.0) (below_all text_cmp x rs) h).0
below_at x (r ∷ rs) (suc i) h within = below_at x rs i (and_parts (is_below x r.0) (below_all text_cmp x rs) h).1 (omega arith)

take_below : (key : Text) (rows : Table) (i : ℕ) → IsAscending rows → i < length rows → is_below (row_at i rows).0 key ≡ true → AllBelow key (take (suc i) rows)
take_below key [] i h within less = absurd (omega arith)
take_below key (r ∷ rs) zero h within less = (less, tt)
take_below key (r ∷ rs) (suc i) h within less =
    let p = and_parts (below_all text_cmp r.0 rs) (is_sorted text_cmp rs) h in
    (below_trans r.0 (row_at i rs).0 key (below_at r.0 rs i p.0 (omega arith)) less, take_below key rs i p.1 (omega arith) less)

-- where a row is below the key, so are those before it
pub below_upto : (key : Text) (rows : Table) (i : ℕ) → IsAscending rows → i < length rows → is_below (row_at i rows).0 key ≡ true → AllBelow key (take (i + 1) rows)
below_upto key rows i h within less =
    let e : suc i ≡ i + 1 = omega arith in
    subst (λ n. AllBelow key (take n rows)) e (take_below key rows i h within less)

-- where a row is above the key, so are those behind it
pub above_upfrom : (key : Text) (rows : Table) (i : ℕ) → IsAscending rows → i < length rows → is_below key (row_at i rows).0 ≡ true → AllAbove key (drop i rows)
above_upfrom key [] i h within more = absurd (omega arith)
above_upfrom key (r ∷ rs) zero h within more =
    let p = and_parts (below_all text_cmp r.0 rs) (is_sorted text_cmp rs) h in
    (more, above_lower key r.0 rs more (above_from r.0 rs p.0))
above_upfrom key (r ∷ rs) (suc i) h within more = above_upfrom key rs i (and_parts (below_all text_cmp r.0 rs) (is_sorted text_cmp rs) h).1 (omega arith) more

-- the rows before and behind one
pub below_own : (rows : Table) (i : ℕ) → IsAscending rows → i < length rows → AllBelow (row_at i rows).0 (take i rows)
below_own [] i h within = absurd (omega arith)
below_own (r ∷ rs) zero h within = tt
below_own (r ∷ rs) (suc i) h within =
    let p = and_parts (below_all text_cmp r.0 rs) (is_sorted text_cmp rs) h in
    (below_at r.0 rs i p.0 (omega arith), below_own rs i p.1 (omega arith))

pub above_own : (rows : Table) (i : ℕ) → IsAscending rows → i < length rows → AllAbove (row_at i rows).0 (drop (suc i) rows)
above_own [] i h within = absurd (omega arith)
above_own (r ∷ rs) zero h within = above_from r.0 rs (and_parts (below_all text_cmp r.0 rs) (is_sorted text_cmp rs) h).0
above_own (r ∷ rs) (suc i) h within = above_own rs i (and_parts (below_all text_cmp r.0 rs) (is_sorted text_cmp rs) h).1 (omega arith)

-- where the last row is below the key, so are all
pub behind_last : (key : Text) (rows : Table) (i : ℕ) (b : Bool) → IsAscending rows → i + 1 ≡ length rows → b ≡ is_below (row_at i rows).0 key → OnTrue b (AllBelow key rows)
behind_last key rows i true h e is = subst (AllBelow key) (take_all (i + 1) rows (omega arith)) (below_upto key rows i h (omega arith) (sym is))
behind_last key rows i false h e is = tt

-- no row, all rows
pub none_above : (key : Text) (rows : Table) (n : ℕ) → length rows ≤ n → AllAbove key (drop n rows)
none_above key rows n h = subst (AllAbove key) (sym (drop_all n rows h)) tt

-- ---- a key that stands there

pub split_at : (rows : Table) (i : ℕ) → i < length rows → rows ≡ take i rows ++ ((row_at i rows ∷ []) ++ drop (suc i) rows)
split_at [] i within = absurd (omega arith)
split_at (r ∷ rs) zero within = refl
split_at (r ∷ rs) (suc i) within = ap (λ t. r ∷ t) (split_at rs i (omega arith))

module _ (key : Text) (rows : Table) (i : ℕ) (h : IsAscending rows) (there : IsAt key rows i) where
  below_there : AllBelow key (take i rows)
  below_there = subst (λ k. AllBelow k (take i rows)) there.is (below_own rows i h there.inside)

  above_there : AllAbove key (drop (suc i) rows)
  above_there = subst (λ k. AllAbove k (drop (suc i) rows)) there.is (above_own rows i h there.inside)

  pub put_there : (value : Text) → set rows i (key, value) ≡ with_pair key value rows
  put_there value =
      set_split rows i (key, value) there.inside
      ∙ sym (ap (with_pair key value) (split_at rows i there.inside) ∙ put_middle key value (take i rows) (row_at i rows ∷ []) (drop (suc i) rows) below_there above_there
      ∙ ap (λ b. take i rows ++ (b ++ drop (suc i) rows)) (put_one key value (row_at i rows) there.is))

  pub remove_there : take i rows ++ drop (suc i) rows ≡ without_key key rows
  remove_there =
      sym (ap (without_key key) (split_at rows i there.inside) ∙ without_middle key (take i rows) (row_at i rows ∷ []) (drop (suc i) rows) below_there above_there
      ∙ ap (λ b. take i rows ++ (b ++ drop (suc i) rows)) (without_one key (row_at i rows) there.is))

  pub value_there : value_at key rows ≡ Some (row_at i rows).1
  value_there =
      ap (value_at key) (split_at rows i there.inside) ∙ value_middle key (take i rows) (row_at i rows ∷ []) (drop (suc i) rows) below_there above_there
      ∙ value_one key (row_at i rows) there.is

-- ---- a key that does not

module _ (key : Text) (rows : Table) (i : ℕ) (gap : IsGap key rows i) where
  pub put_gap : (value : Text) → take i rows ++ (key, value) ∷ drop i rows ≡ with_pair key value rows
  put_gap value = sym (ap (with_pair key value) (sym (take-append-drop i rows)) ∙ put_middle key value (take i rows) [] (drop i rows) gap.below gap.above)

  pub remove_gap : rows ≡ without_key key rows
  remove_gap = sym (ap (without_key key) (sym (take-append-drop i rows)) ∙ without_middle key (take i rows) [] (drop i rows) gap.below gap.above ∙ take-append-drop i rows)

  pub value_gap : value_at key rows ≡ None
  value_gap = ap (value_at key) (sym (take-append-drop i rows)) ∙ value_middle key (take i rows) [] (drop i rows) gap.below gap.above

-- ---- how many rows there are then

-- one more exactly where the key was not found
pub length-found : (key value : Text) (rows : Table) (found : Result ℕ ℕ) → IsAscending rows → Finds key rows found → length (with_pair key value rows) ≡ length rows + cond (is_err found) 1 0
length-found key value rows (Ok i) h there =
    let same = ap length (put_there key rows i h there value) in
    omega (arith, same, length-set rows i (key, value))
length-found key value rows (Err i) h gap =
    let same = ap length (put_gap key rows i gap value) in
    omega (arith, same, length-insert rows i (key, value) gap.inside)
