-- Which texts may bound a range, and the range that each bounds.
use Rattle.std.proofs.Common.{◌≡◌, ◌==◌, ◌&&◌, ◌||◌, true, false, not, nat_le, nat_eq, [], ◌∷◌, ◌++◌, length, refl, sym, ap, ◌∙◌, subst, arith, Bool, suc, append-nil, length-append, leb-true, le-leb}
use Rattle.std.proofs.Math.Dec.{leb-suc-suc}
use Rattle.std.specs.List.{starts_with, ends_with}
use Rattle.std.proofs.lemmas.Bool.{and_parts, and_from, false_from_ne_true, not-true, or_left}
use Rattle.semantics.specs.Texts.{Text, bar, brace, has_bar, table_of, names_table, is_key, is_range}
use Rattle.key_ranges.specs.Ranges.{without_last}
use Rattle.key_ranges.proofs.OrderLemmas.{up_to_itself}
use Rattle.key_ranges.proofs.PrefixLemmas.{last_byte, ends_with_push, has_bar-append, table_of-append, begins_with_table}
use Rattle.key_ranges.proofs.RangeLemmas.{range_from_bounds, bar_of_names}
use Rattle.key_space.specs.Parts.{is_table_name}
use Rattle.core_events.specs.Events.{closes_table, is_bound}

-- ---- texts that close a table

-- a text that does not end with `}` closes none
pub closes-other : (t : Text) → ((front : Text) → t ≡ front ++ brace ∷ [] → ⊥) → closes_table t ≡ false
closes-other t none = rw (false_from_ne_true (ends_with nat_eq t (brace ∷ [])) (λ e. none (without_last t) (last_byte t brace e))) refl

-- a text with `}` behind it has `|` where the text has
has_bar-closed : (name : Text) → has_bar (name ++ brace ∷ []) ≡ has_bar name
has_bar-closed [] = refl
has_bar-closed (b ∷ bs) = ap (λ x. (b == bar) || x) (has_bar-closed bs)

-- the tests of a text with `}` behind it are those of the text
closes_by : (name : Text) (b : Bool) → has_bar name ≡ b →
    (true && not b && nat_le 2 (suc (length name)) && nat_le (suc (length name)) 65) ≡ (not b && is_table_name name)
closes_by name true e = refl
closes_by name false e = rw (leb-suc-suc 1 (length name), leb-suc-suc (length name) 64) refl

-- a text that ends with `}` closes a table where what stands before is a name without `|`
pub closes-closed : (t name : Text) → t ≡ name ++ brace ∷ [] → closes_table t ≡ (not (has_bar name) && is_table_name name)
closes-closed t name e =
    let long : length (name ++ brace ∷ []) ≡ suc (length name) = omega (arith, length-append name (brace ∷ [])) in
    ap closes_table e ∙ rw (ends_with_push name brace, has_bar-closed name, long) (closes_by name (has_bar name) refl)

-- what stands before the `}` of a text that closes a table
pub closed_name : (t name : Text) → t ≡ name ++ brace ∷ [] → closes_table t ≡ true → (is_table_name name ≡ true) × (has_bar name ≡ false)
closed_name t name e h =
    let parts = and_parts (not (has_bar name)) (is_table_name name) (sym (closes-closed t name e) ∙ h) in
    (parts.1, not-true (has_bar name) parts.0)

-- a bound that begins with no table's name and `|` closes a table
pub bound_closes : (t : Text) → is_bound t ≡ true → names_table t ≡ false → closes_table t ≡ true
bound_closes t h none =
    let either = (and_parts (nat_le (length t) 513) (names_table t || closes_table t) h).1 in
    rw none at either

-- ---- ranges

-- a table's name and `|` are a key
pub name_is_key : (t name : Text) → t ≡ name ++ bar ∷ [] → is_table_name name ≡ true → has_bar name ≡ false → is_key t ≡ true
name_is_key t name e h none =
    let table : table_of (name ++ bar ∷ []) ≡ name = table_of-append name [] none in
    let parts = and_parts (nat_le 1 (length name)) (nat_le (length name) 64) h in
    let few = leb-true (length name) 64 parts.1 in
    let short : nat_le (length (name ++ bar ∷ [])) 512 ≡ true = le-leb (length (name ++ bar ∷ [])) 512 (omega (arith, length-append name (bar ∷ []))) in
    ap is_key e ∙ and_from _ _ short (rw (has_bar-append name [], table) h)

-- a bound that begins with a table's name and `|` bounds a range at both ends
pub bounds_itself : (t : Text) → is_bound t ≡ true → names_table t ≡ true → is_range t t ≡ true
bounds_itself t h names =
    let short = (and_parts (nat_le (length t) 513) (names_table t || closes_table t) h).0 in
    range_from_bounds t t (record {
      short_low = short;
      short_high = short;
      names = names;
      ends = or_left _ _ (subst (λ u. starts_with nat_eq u (table_of t ++ bar ∷ []) ≡ true) (append-nil t) (begins_with_table t [] (bar_of_names t names)));
      ascend = up_to_itself t;
    })
