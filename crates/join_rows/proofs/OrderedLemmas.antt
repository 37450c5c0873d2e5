-- Tables whose keys ascend: what lies before, between and behind.
use Rattle.std.proofs.Common.{◌≡◌, ℕ, zero, suc, ◌<◌, Bool, true, false, cond, not, ◌&&◌, List, [], ◌∷◌, ◌++◌, length, take, drop, get_or, filter, Option, Some, None, refl, sym, ap, ◌∙◌, subst, arith, Ordering, Less, Equal, Greater, is_lt, is_eq}
use Rattle.std.specs.List.{AllByRecursion}
use Rattle.std.specs.Ordering.{ordering_reverse}
use Rattle.std.specs.FinMap.Entries.{by_order, is_sorted, below_all}
use Rattle.std.proofs.lemmas.Bool.{and_parts, and_from, false≢true}
use Rattle.std.proofs.lemmas.List.Elements.{filter-append}
use Rattle.semantics.specs.Texts.{Text, same, text_cmp, Table, value_at, with_pair, without_key, pairs_where}
use Rattle.semantics.proofs.PieceLemmas.{same_by_equal}
use Rattle.semantics.proofs.TableLemmas.{IsAscending, text_total, same_is_tie, tie_itself}
use Rattle.key_ranges.specs.Ranges.{is_below}
use Rattle.key_ranges.proofs.OrderLemmas.{up_to_below, up_to_from_below}
use Rattle.join_rows.specs.Found.{row_at, AllBelow, AllAbove}
use Rattle.join_rows.proofs.AllLemmas.{all_right}

-- ---- two keys

pub below_trans : (a b c : Text) → is_below a b ≡ true → is_below b c ≡ true → is_below a c ≡ true
below_trans a b c h g = up_to_below a b c (up_to_from_below a b h) g

less_by : (o : Ordering) → is_lt o ≡ true → o ≡ Less
less_by Less h = refl
less_by Equal h = absurd (false≢true h)
less_by Greater h = absurd (false≢true h)

reversed_by : (o : Ordering) → is_lt o ≡ true → ordering_reverse o ≡ Greater
reversed_by Less h = refl
reversed_by Equal h = absurd (false≢true h)
reversed_by Greater h = absurd (false≢true h)

-- a key below another compares as less
pub is_less : (a b : Text) → is_below a b ≡ true → text_cmp a b ≡ Less
is_less a b h = less_by (text_cmp a b) h

-- and the other as greater
pub is_greater : (a b : Text) → is_below b a ≡ true → text_cmp a b ≡ Greater
is_greater a b h = text_total.antisymm a b ∙ reversed_by (text_cmp b a) h

pub below_from_less : (a b : Text) → text_cmp a b ≡ Less → is_below a b ≡ true
below_from_less a b e = ap is_lt e

pub below_from_greater : (a b : Text) → text_cmp a b ≡ Greater → is_below b a ≡ true
below_from_greater a b e = ap is_lt (text_total.antisymm b a ∙ ap ordering_reverse e)

-- a key that is below another is not the same, nor is one that is above
apart_below : (x key : Text) → is_below x key ≡ true → same x key ≡ false
apart_below x key h = same_is_tie x key ∙ ap is_eq (is_less x key h)

apart_above : (x key : Text) → is_below key x ≡ true → same x key ≡ false
apart_above x key h = same_is_tie x key ∙ ap is_eq (is_greater x key h)

-- ---- the parts of a table whose keys ascend

pub above_from : (key : Text) (rows : Table) → below_all text_cmp key rows ≡ true → AllAbove key rows
above_from key [] h = tt
above_from key (r ∷ rs) h = let p = and_parts (is_below key r.0) (below_all text_cmp key rs) h in (p.0, above_from key rs p.1)

pub below_all_from : (key : Text) (rows : Table) → AllAbove key rows → below_all text_cmp key rows ≡ true
below_all_from key [] h = refl
below_all_from key (r ∷ rs) h = and_from (is_below key r.0) (below_all text_cmp key rs) h.0 (below_all_from key rs h.1)

-- what is above a key is above each key below that
pub above_lower : (a b : Text) (rows : Table) → is_below a b ≡ true → AllAbove b rows → AllAbove a rows
above_lower a b [] h g = tt
above_lower a b (r ∷ rs) h g = (below_trans a b r.0 h g.0, above_lower a b rs h g.1)

-- each key of the one table is below all of the other
abbrev pub AllBefore : Table → Table → Type 0
AllBefore a b = AllByRecursion (λ row. AllAbove row.0 b) a

pub record Halves (a b : Table) : Type 0 where
  pub first : IsAscending a
  pub second : IsAscending b
  pub apart : AllBefore a b

below_left : (x : Text) (a b : Table) → below_all text_cmp x (a ++ b) ≡ true → below_all text_cmp x a ≡ true
below_left x [] b h = refl
below_left x (r ∷ a) b h = let p = and_parts (is_below x r.0) (below_all text_cmp x (a ++ b)) h in and_from (is_below x r.0) (below_all text_cmp x a) p.0 (below_left x a b p.1)

pub halves : (a b : Table) → IsAscending (a ++ b) → Halves a b
halves [] b h = record { first = refl; second = h; apart = tt }
halves (r ∷ a) b h =
    let p = and_parts (below_all text_cmp r.0 (a ++ b)) (is_sorted text_cmp (a ++ b)) h in
    let rest = halves a b p.1 in record {
      first = and_from (below_all text_cmp r.0 a) (is_sorted text_cmp a) (below_left r.0 a b p.0) rest.first;
      second = rest.second;
      apart = (all_right (λ (row : Text × Text). is_below r.0 row.0 ≡ true) a b (above_from r.0 (a ++ b) p.0), rest.apart);
    }

-- ---- one pair more or less, and the value at a key, where it can stand only in the middle part

put_before : (key value : Text) (c : Table) → AllAbove key c → with_pair key value c ≡ (key, value) ∷ c
put_before key value [] above = refl
put_before key value (r ∷ c) above = ap (λ o. by_order o ((key, value) ∷ r ∷ c) ((r.0, value) ∷ c) (r ∷ with_pair key value c)) (is_less key r.0 above.0)

put_onto : (key value : Text) (r : Text × Text) (b c : Table) (o : Ordering) → with_pair key value (b ++ c) ≡ with_pair key value b ++ c →
    by_order o ((key, value) ∷ r ∷ (b ++ c)) ((r.0, value) ∷ (b ++ c)) (r ∷ with_pair key value (b ++ c))
    ≡ by_order o ((key, value) ∷ r ∷ b) ((r.0, value) ∷ b) (r ∷ with_pair key value b) ++ c
put_onto key value r b c Less e = refl
put_onto key value r b c Equal e = refl
put_onto key value r b c Greater e = ap (λ t. r ∷ t) e

put_here : (key value : Text) (b c : Table) → AllAbove key c → with_pair key value (b ++ c) ≡ with_pair key value b ++ c
put_here key value [] c above = put_before key value c above
put_here key value (r ∷ b) c above = put_onto key value r b c (text_cmp key r.0) (put_here key value b c above)

pub put_middle : (key value : Text) (a b c : Table) → AllBelow key a → AllAbove key c → with_pair key value (a ++ (b ++ c)) ≡ a ++ (with_pair key value b ++ c)
put_middle key value [] b c below above = put_here key value b c above
put_middle key value (r ∷ a) b c below above =
    ap (λ o. by_order o ((key, value) ∷ r ∷ (a ++ (b ++ c))) ((r.0, value) ∷ (a ++ (b ++ c))) (r ∷ with_pair key value (a ++ (b ++ c)))) (is_greater key r.0 below.0)
    ∙ ap (λ t. r ∷ t) (put_middle key value a b c below.1 above)

-- all pass, or none
pub keep_each : (test : Text → Bool) (rows : Table) → AllByRecursion (λ row. test row.0 ≡ true) rows → pairs_where test rows ≡ rows
keep_each test [] h = refl
keep_each test (r ∷ rs) h = ap (λ b. cond b (r ∷ pairs_where test rs) (pairs_where test rs)) h.0 ∙ ap (λ t. r ∷ t) (keep_each test rs h.1)

pub keep_none : (test : Text → Bool) (rows : Table) → AllByRecursion (λ row. test row.0 ≡ false) rows → pairs_where test rows ≡ []
keep_none test [] h = refl
keep_none test (r ∷ rs) h = ap (λ b. cond b (r ∷ pairs_where test rs) (pairs_where test rs)) h.0 ∙ keep_none test rs h.1

pub where-append : (test : Text → Bool) (a b : Table) → pairs_where test (a ++ b) ≡ pairs_where test a ++ pairs_where test b
where-append test a b = filter-append (λ e. test e.0) a b

without_below : (key : Text) (a : Table) → AllBelow key a → AllByRecursion (λ row. not (same row.0 key) ≡ true) a
without_below key [] h = tt
without_below key (r ∷ a) h = (ap not (apart_below r.0 key h.0), without_below key a h.1)

without_above : (key : Text) (c : Table) → AllAbove key c → AllByRecursion (λ row. not (same row.0 key) ≡ true) c
without_above key [] h = tt
without_above key (r ∷ c) h = (ap not (apart_above r.0 key h.0), without_above key c h.1)

pub without_middle : (key : Text) (a b c : Table) → AllBelow key a → AllAbove key c → without_key key (a ++ (b ++ c)) ≡ a ++ (without_key key b ++ c)
without_middle key a b c below above =
    let test : Text → Bool = λ k. not (same k key) in
    let first : pairs_where test a ≡ a = keep_each test a (without_below key a below) in
    let last : pairs_where test c ≡ c = keep_each test c (without_above key c above) in
    where-append test a (b ++ c) ∙ ap (λ t. t ++ pairs_where test (b ++ c)) first ∙ ap (λ t. a ++ t) (where-append test b c ∙ ap (λ t. pairs_where test b ++ t) last)

value_above : (key : Text) (c : Table) → AllAbove key c → value_at key c ≡ None
value_above key [] h = refl
value_above key (r ∷ c) h = ap (λ o. cond (is_eq o) (Some r.1) (value_at key c)) (is_less key r.0 h.0) ∙ value_above key c h.1

value_here : (key : Text) (b c : Table) → AllAbove key c → value_at key (b ++ c) ≡ value_at key b
value_here key [] c above = value_above key c above
value_here key (r ∷ b) c above = ap (λ o. cond (is_eq (text_cmp key r.0)) (Some r.1) o) (value_here key b c above)

pub value_middle : (key : Text) (a b c : Table) → AllBelow key a → AllAbove key c → value_at key (a ++ (b ++ c)) ≡ value_at key b
value_middle key [] b c below above = value_here key b c above
value_middle key (r ∷ a) b c below above = ap (λ o. cond (is_eq o) (Some r.1) (value_at key (a ++ (b ++ c)))) (is_greater key r.0 below.0) ∙ value_middle key a b c below.1 above

-- ---- one row

pub put_one : (key value : Text) (r : Text × Text) → r.0 ≡ key → with_pair key value (r ∷ []) ≡ (key, value) ∷ []
put_one key value r is =
    ap (λ o. by_order o ((key, value) ∷ r ∷ []) ((r.0, value) ∷ []) (r ∷ (key, value) ∷ [])) (ap (text_cmp key) is ∙ tie_itself key) ∙ ap (λ k. (k, value) ∷ []) is

pub without_one : (key : Text) (r : Text × Text) → r.0 ≡ key → without_key key (r ∷ []) ≡ []
without_one key r is = ap (λ b. cond (not b) (r ∷ []) []) (same_by_equal r.0 key is)

pub value_one : (key : Text) (r : Text × Text) → r.0 ≡ key → value_at key (r ∷ []) ≡ Some r.1
value_one key r is = ap (λ o. cond (is_eq o) (Some r.1) None) (ap (text_cmp key) is ∙ tie_itself key)
