-- The names of tables in front of texts: filled keys, and the range of a table.
use Rattle.std.proofs.Common.{◌≡◌, ◌⊎◌, ℕ, suc, ◌+◌, ◌<◌, ◌≤◌, Bool, true, false, ◌==◌, ◌&&◌, nat_le, nat_lt, [], ◌∷◌, ◌++◌, length, refl, sym, ap, ◌∙◌, subst, inl, inr, ⊎_elim, arith, Ordering, Less, Equal, Greater, nat_cmp, is_lt, is_le, eqb-true, eq-eqb, ltb-true, ltb-false, leb-true, le-leb, nat_eq, length-append}
use Rattle.std.specs.List.{join_with_byte, position_or_len, starts_with}
use Rattle.std.specs.Ordering.{ordering_then}
use Rattle.std.specs.Cmp.{tied_itself}
use Rattle.std.proofs.lemmas.Cmp.{nat_cmp_total}
use Rattle.std.proofs.lemmas.Bool.{and_parts, and_from, or_right, false≢true}
use Rattle.std.proofs.lemmas.Option.{cond_some, option_and_then_some}
use Rattle.semantics.specs.Texts.{Text, bar, brace, same, text_cmp, is_key, has_bar, table_of, names_table, ends_range, within}
use Rattle.semantics.specs.Patterns.{segment_texts}
use Rattle.semantics.proofs.PieceLemmas.{same_by_equal}
use Rattle.semantics.proofs.NameLemmas.{table_of-named, names_joined}
use Rattle.semantics.proofs.PatternLemmas.{segment_texts_take, segments_of_pattern, two_of_pattern}
use Rattle.growing_history.specs.PatternLaws.{FillIsKey, table_range, TableHasRange, TableRangeIsRange}

-- ---- a name in front

-- a text in which `|` stands is its table's name, `|` and a rest
abbrev IsNamed : Text → Type 0
IsNamed key = (rest : Text) × (key ≡ table_of key ++ bar ∷ rest)

-- one byte more in front
named_by : (b : ℕ) (bs : Text) (x : Bool) → (b == bar) ≡ x → has_bar (b ∷ bs) ≡ true → (has_bar bs ≡ true → IsNamed bs) → IsNamed (b ∷ bs)
named_by b bs true e h more = (bs, rw e (ap (λ a. a ∷ bs) (eqb-true b bar e)))
named_by b bs false e h more =
    let later : has_bar bs ≡ true = rw e at h in
    let r = more later in
    let next = position_or_len (λ x. x == bar) bs in
    let step : 1 + next ≡ suc next = omega arith in
    (r.0, rw (e, step) (ap (λ t. b ∷ t) r.1))

-- a text in which `|` stands begins with its table's name and `|`
pub named : (key : Text) → has_bar key ≡ true → IsNamed key
named [] h = absurd (false≢true h)
named (b ∷ bs) h = named_by b bs (b == bar) refl h (named bs)

-- ---- filled keys

-- what a pattern is filled to is a key
pub fill_is_key_lem : FillIsKey
fill_is_key_lem p given key ok h = option_and_then_some _ (segment_texts p given) key h (λ ts texts e.
    let cut = cond_some (nat_le (length (join_with_byte bar ts)) 512) (join_with_byte bar ts) key e in
    let names = names_joined p ts given (two_of_pattern p ok) (and_parts _ _ (and_parts _ _ ok).0).1 (segments_of_pattern p ok) (segment_texts_take p ts given texts) in
    subst (λ k. is_key k ≡ true) cut.1 (and_from _ _ cut.0 names))

-- ---- the range of a table

-- a number ties with itself
tied : (n : ℕ) → nat_cmp n n ≡ Equal
tied n = tied_itself nat_cmp_total n

-- texts behind one byte compare as they do without it
text_cmp-both : (n : ℕ) (t u : Text) → text_cmp (n ∷ t) (n ∷ u) ≡ text_cmp t u
text_cmp-both n t u = ap (λ o. ordering_then o (text_cmp t u)) (tied n)

-- the first bound of a table's range is not above a text behind the table's name and `|`
low_named : (name rest : Text) → is_le (text_cmp (name ++ bar ∷ []) (name ++ bar ∷ rest)) ≡ true
low_named [] [] = refl
low_named [] (b ∷ bs) = refl
low_named (n ∷ ns) rest = ap is_le (text_cmp-both n (ns ++ bar ∷ []) (ns ++ bar ∷ rest)) ∙ low_named ns rest

-- such a text is below the last bound
high_named : (name rest : Text) → is_lt (text_cmp (name ++ bar ∷ rest) (name ++ brace ∷ [])) ≡ true
high_named [] rest = refl
high_named (n ∷ ns) rest = ap is_lt (text_cmp-both n (ns ++ bar ∷ rest) (ns ++ brace ∷ [])) ∙ high_named ns rest

-- a text behind a table's name and `|` lies in the table's range
within_named : (name rest : Text) → within (table_range name) (name ++ bar ∷ rest) ≡ true
within_named name rest = and_from _ _ (low_named name rest) (high_named name rest)

-- how two numbers compare
data Compared (a b : ℕ) : Type 0 where
  less : a < b → nat_cmp a b ≡ Less → Compared a b
  tie : a ≡ b → nat_cmp a b ≡ Equal → Compared a b
  more : b < a → nat_cmp a b ≡ Greater → Compared a b

-- two numbers compare as the tests of them say
compared_by : (a b : ℕ) (x y : Bool) → nat_lt a b ≡ x → (a == b) ≡ y → Compared a b
compared_by a b true y e f = less (ltb-true a b e) (rw e)
compared_by a b false true e f = tie (eqb-true a b f) (rw (e, f))
compared_by a b false false e f = more (let l = ltb-false a b e in let d = eqb-false a b f in omega arith) (rw (e, f))
  where
    eqb-false : (a b : ℕ) → (a == b) ≡ false → a ≡ b → ⊥
    eqb-false a b f e = false≢true (sym f ∙ eq-eqb a b e)

-- two numbers compare in one of the three ways
compared : (a b : ℕ) → Compared a b
compared a b = compared_by a b (nat_lt a b) (a == b) refl refl

-- a first byte that decides for a text not above another is not above the other's
first_low : (a b : ℕ) (o : Ordering) → Compared a b → is_le (ordering_then (nat_cmp a b) o) ≡ true → (a < b) ⊎ ((a ≡ b) × (is_le o ≡ true))
first_low a b o (less l e) h = inl l
first_low a b o (tie q e) h = inr (q, rw e at h)
first_low a b o (more g e) h = absurd (false≢true (rw e at h))

-- the same for a text below another
first_high : (a b : ℕ) (o : Ordering) → Compared a b → is_lt (ordering_then (nat_cmp a b) o) ≡ true → (a < b) ⊎ ((a ≡ b) × (is_lt o ≡ true))
first_high a b o (less l e) h = inl l
first_high a b o (tie q e) h = inr (q, rw e at h)
first_high a b o (more g e) h = absurd (false≢true (rw e at h))

-- no text is below the empty one
not_below_empty : (t : Text) → is_lt (text_cmp t []) ≡ true → ⊥
not_below_empty [] h = false≢true h
not_below_empty (b ∷ bs) h = false≢true h

-- a text between the bounds of a table's range begins with the table's name and `|`
between : (name key : Text) → is_le (text_cmp (name ++ bar ∷ []) key) ≡ true → is_lt (text_cmp key (name ++ brace ∷ [])) ≡ true → (rest : Text) × (key ≡ name ++ bar ∷ rest)
between [] [] low high = absurd (false≢true low)
between (n ∷ ns) [] low high = absurd (false≢true low)
between [] (b ∷ bs) low high =
    let at_low = first_low bar b (text_cmp [] bs) (compared bar b) low in
    let at_high = first_high b brace (text_cmp bs []) (compared b brace) high in
    let from : 124 ≤ b = ⊎_elim (λ l. omega arith) (λ q. let e = q.0 in omega arith) at_low in
    let upto : b < 125 = ⊎_elim (λ l. l) (λ q. absurd (not_below_empty bs q.1)) at_high in
    let is : b ≡ 124 = omega arith in
    (bs, ap (λ x. x ∷ bs) is)
between (n ∷ ns) (b ∷ bs) low high =
    ⊎_elim
    (λ l. ⊎_elim (λ m. absurd (omega arith)) (λ q. let e = q.0 in absurd (omega arith)) (first_high b n (text_cmp bs (ns ++ brace ∷ [])) (compared b n) high))
    (λ p. ⊎_elim (λ m. let e = p.0 in absurd (omega arith))
    (λ q. let r = between ns bs p.1 q.1 in (r.0, λ i. q.0 i ∷ r.1 i))
    (first_high b n (text_cmp bs (ns ++ brace ∷ [])) (compared b n) high))
    (first_low n b (text_cmp (ns ++ bar ∷ []) bs) (compared n b) low)

-- a key is of a table exactly where it lies in the table's range
pub table_has_range_lem : TableHasRange
table_has_range_lem name key lacks ok = (
  λ e. let r = named key (and_parts _ _ (and_parts _ _ (and_parts (nat_le (length key) 512) (names_table key) ok).1).0).0 in
      subst (λ k. within (table_range name) k ≡ true) (sym (r.1 ∙ ap (λ t. t ++ bar ∷ r.0) e)) (within_named name r.0),
  λ h. let parts = and_parts (is_le (text_cmp (name ++ bar ∷ []) key)) (is_lt (text_cmp key (name ++ brace ∷ []))) h in
      let r = between name key parts.0 parts.1 in
      ap table_of r.1 ∙ table_of-named name r.0 lacks,
)

-- the first bound of a table's range is not above the last
bounds_in_order : (name : Text) → is_le (text_cmp (name ++ bar ∷ []) (name ++ brace ∷ [])) ≡ true
bounds_in_order [] = refl
bounds_in_order (n ∷ ns) = ap is_le (text_cmp-both n (ns ++ bar ∷ []) (ns ++ brace ∷ [])) ∙ bounds_in_order ns

-- the range of a table is a range
pub table_range_is_range_lem : TableRangeIsRange
table_range_is_range_lem name lacks ok =
    let own = table_of-named name [] lacks in
    let within_64 : nat_le (length (table_of (name ++ bar ∷ []))) 64 ≡ true = (and_parts (has_bar (name ++ bar ∷ []) && nat_le 1 (length (table_of (name ++ bar ∷ [])))) (nat_le (length (table_of (name ++ bar ∷ []))) 64) ok).1 in
    let short : length name ≤ 64 = leb-true (length name) 64 (subst (λ t. nat_le (length t) 64 ≡ true) own within_64) in
    let low_long = length-append name (bar ∷ []) in
    let high_long = length-append name (brace ∷ []) in
    let low_short : nat_le (length (name ++ bar ∷ [])) 513 ≡ true = le-leb (length (name ++ bar ∷ [])) 513 (omega arith) in
    let high_short : nat_le (length (name ++ brace ∷ [])) 513 ≡ true = le-leb (length (name ++ brace ∷ [])) 513 (omega arith) in
    let ends : ends_range (name ++ bar ∷ []) (name ++ brace ∷ []) ≡ true = or_right (starts_with nat_eq (name ++ brace ∷ []) (table_of (name ++ bar ∷ []) ++ bar ∷ [])) (same (name ++ brace ∷ []) (table_of (name ++ bar ∷ []) ++ brace ∷ []))
    (same_by_equal _ _ (ap (λ t. t ++ brace ∷ []) (sym own))) in
    and_from _ _ (and_from _ _ (and_from _ _ (and_from _ _ low_short high_short) ok) ends) (bounds_in_order name)
