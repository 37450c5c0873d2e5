-- Which texts may bound a range.
use Rattle.std.proofs.Common.{◌≡◌, ◌⊎◌, ◌≤◌, ◌==◌, ◌&&◌, ◌||◌, true, false, not, nat_le, nat_eq, [], ◌∷◌, ◌++◌, length, refl, sym, ap, ◌∙◌, subst, inl, inr, ⊎_elim, arith, append_assoc, append-nil, length-append, leb-true, le-leb}
use Rattle.std.specs.List.{starts_with, ends_with}
use Rattle.std.proofs.lemmas.Bool.{and_parts, and_from, or_cases, or_left, or_right, not-true, not_from_false}
use Rattle.semantics.specs.Texts.{Text, bar, brace, has_bar, table_of, names_table}
use Rattle.semantics.proofs.PieceLemmas.{equal_by_same}
use Rattle.key_ranges.specs.Ranges.{without_last}
use Rattle.key_ranges.proofs.PrefixLemmas.{rest_of, last_byte, ends_with_push, has_bar-append, named, table_from_beginning, begins_with_table}
use Rattle.key_ranges.proofs.RangeLemmas.{bounds_of}
use Rattle.core_events.specs.Events.{closes_table, is_bound}
use Rattle.core_events.specs.ScriptLaws.{Bounds, BoundIsOfTable, RangeHasBounds}

-- ---- names

-- the parts of a text that begins with a table's name and `|`
names_parts : (t : Text) → names_table t ≡ true → (has_bar t ≡ true) × (1 ≤ length (table_of t)) × (length (table_of t) ≤ 64)
names_parts t h =
    let narrow = and_parts (has_bar t && nat_le 1 (length (table_of t))) (nat_le (length (table_of t)) 64) h in
    let named = and_parts (has_bar t) (nat_le 1 (length (table_of t))) narrow.0 in
    (named.0, leb-true 1 (length (table_of t)) named.1, leb-true (length (table_of t)) 64 narrow.1)

-- and the other way round
names_from : (t : Text) → has_bar t ≡ true → 1 ≤ length (table_of t) → length (table_of t) ≤ 64 → names_table t ≡ true
names_from t has named narrow = and_from _ _ (and_from _ _ has (le-leb 1 (length (table_of t)) named)) (le-leb (length (table_of t)) 64 narrow)

-- a text with `}` behind it has `|` where the text has
has_bar_closed : (name : Text) → has_bar (name ++ brace ∷ []) ≡ has_bar name
has_bar_closed [] = refl
has_bar_closed (b ∷ bs) = ap (λ x. (b == bar) || x) (has_bar_closed bs)

-- ---- both ways

-- a text that closes a table
closed_bounds : (t : Text) → length t ≤ 513 → closes_table t ≡ true → Bounds t
closed_bounds t short h =
    let long = and_parts (ends_with nat_eq t (brace ∷ []) && not (has_bar t) && nat_le 2 (length t)) (nat_le (length t) 65) h in
    let two = and_parts (ends_with nat_eq t (brace ∷ []) && not (has_bar t)) (nat_le 2 (length t)) long.0 in
    let ends = and_parts (ends_with nat_eq t (brace ∷ [])) (not (has_bar t)) two.0 in
    let is : t ≡ without_last t ++ brace ∷ [] = last_byte t brace ends.0 in
    let length_is = ap length is ∙ length-append (without_last t) (brace ∷ []) in
    let some = leb-true 2 (length t) two.1 in
    let few = leb-true (length t) 65 long.1 in
    record {
      short = short;
      name = without_last t;
      named = omega (arith, length_is, some);
      narrow = omega (arith, length_is, few);
      plain = sym (has_bar_closed (without_last t)) ∙ ap has_bar (sym is) ∙ not-true (has_bar t) ends.1;
      ends = inr is;
    }

-- a text that begins with a table's name and `|`
named_bounds : (t : Text) → length t ≤ 513 → names_table t ≡ true → Bounds t
named_bounds t short h =
    let parts = names_parts t h in
    record {
      short = short;
      name = table_of t;
      named = parts.1;
      narrow = parts.2;
      plain = (named t parts.0).2;
      ends = inl (subst (λ u. starts_with nat_eq u (table_of t ++ bar ∷ []) ≡ true) (append-nil t) (begins_with_table t [] parts.0));
    }

-- a text with such a name is a bound
bound_from : (t : Text) → Bounds t → is_bound t ≡ true
bound_from t b = and_from (nat_le (length t) 513) (names_table t || closes_table t) (le-leb (length t) 513 b.short) (by b.ends)
  where
    by : (starts_with nat_eq t (b.name ++ bar ∷ []) ≡ true) ⊎ (t ≡ b.name ++ brace ∷ []) → (names_table t || closes_table t) ≡ true
    by (inl begins) =
        let table : table_of t ≡ b.name = table_from_beginning t b.name b.plain begins in
        let w = rest_of t (b.name ++ bar ∷ []) begins in
        let has : has_bar t ≡ true = ap has_bar (w.1 ∙ append_assoc b.name (bar ∷ []) w.0) ∙ has_bar-append b.name w.0 in
        or_left (names_table t) (closes_table t) (names_from t has (subst (λ u. 1 ≤ length u) (sym table) b.named) (subst (λ u. length u ≤ 64) (sym table) b.narrow))
    by (inr is) =
        let length_is = ap length is ∙ length-append b.name (brace ∷ []) in
        let ends : ends_with nat_eq t (brace ∷ []) ≡ true = subst (λ u. ends_with nat_eq u (brace ∷ []) ≡ true) (sym is) (ends_with_push b.name brace) in
        let none : has_bar t ≡ false = ap has_bar is ∙ has_bar_closed b.name ∙ b.plain in
        let some = b.named in
        let few = b.narrow in
        or_right (names_table t) (closes_table t)
        (and_from _ _ (and_from _ _ (and_from _ _ ends (not_from_false (has_bar t) none)) (le-leb 2 (length t) (omega (arith, length_is, some)))) (le-leb (length t) 65 (omega (arith, length_is, few))))

-- which texts may bound a range
pub bound_is_of_table : BoundIsOfTable
bound_is_of_table t = (
  λ h.
      let parts = and_parts (nat_le (length t) 513) (names_table t || closes_table t) h in
      let short = leb-true (length t) 513 parts.0 in
      ⊎_elim (λ (e : names_table t ≡ true). named_bounds t short e) (λ e. closed_bounds t short e) (or_cases (names_table t) (closes_table t) parts.1),
  bound_from t,
)

-- both bounds of a range are bounds
pub range_has_bounds : RangeHasBounds
range_has_bounds low high h =
    let both = bounds_of low high h in
    let parts = names_parts low both.names in
    let first = named_bounds low (leb-true (length low) 513 both.short_low) both.names in
    let last : Bounds high = record {
      short = leb-true (length high) 513 both.short_high;
      name = table_of low;
      named = parts.1;
      narrow = parts.2;
      plain = (named low parts.0).2;
      ends = ⊎_elim (λ (e : starts_with nat_eq high (table_of low ++ bar ∷ []) ≡ true). inl e) (λ e. inr (equal_by_same _ _ e)) (or_cases _ _ both.ends);
    } in
    (bound_from low first, bound_from high last)
