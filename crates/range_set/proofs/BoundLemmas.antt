-- Bounds in order: the greater and the lesser of two, and the range between two bounds of a range.
use Rattle.std.proofs.Common.{◌≡◌, true, false, not, ◌||◌, nat_eq, nat_le, [], ◌∷◌, ◌++◌, length, refl, sym, ap, ◌∙◌, subst, append_assoc, Ordering, Less, Equal, Greater}
use Rattle.std.specs.List.{starts_with}
use Rattle.std.specs.Ordering.{is_gt, is_le}
use Rattle.std.proofs.lemmas.Bool.{false≢true, and_parts, and_from, cond_both}
use Rattle.semantics.specs.Texts.{Text, text_cmp, bar, brace, same, table_of, has_bar, names_table, is_range, Range, within}
use Rattle.semantics.proofs.PieceLemmas.{equal_by_same}
use Rattle.key_ranges.specs.Ranges.{is_below, later, earlier}
use Rattle.key_ranges.proofs.OrderLemmas.{is_up_to, up_to_itself, up_to_from_below, up_to_from_not_below, up_to_is, later_up_to, up_to-not_below, below_up_to}
use Rattle.key_ranges.proofs.PrefixLemmas.{rest_of, named}
use Rattle.key_ranges.proofs.ContainingLemmas.{names_from_name}
use Rattle.key_ranges.proofs.RangeLemmas.{bounds_of, range_from_bounds, within_begins, within_table}

-- a bound that is up to another and not below it is the same
pub equal_bounds : (a b : Text) → is_up_to a b ≡ true → is_below a b ≡ false → a ≡ b
equal_bounds a b h g = equal_by_same a b (sym (ap (λ x. x || same a b) g) ∙ sym (up_to_is a b) ∙ h)

-- a text is not below itself
pub not_below_itself : (a : Text) → is_below a a ≡ true → ⊥
not_below_itself a h = false≢true (sym (up_to-not_below a a ∙ ap not h) ∙ up_to_itself a)

-- the first of two texts is up to the greater
pub up_to_later : (a b : Text) → is_up_to a (later a b) ≡ true
up_to_later a b = (and_parts (is_up_to a (later a b)) (is_up_to b (later a b)) (sym (later_up_to a b (later a b)) ∙ up_to_itself (later a b))).0

-- the second of two texts is up to the greater
pub second_up_to_later : (a b : Text) → is_up_to b (later a b) ≡ true
second_up_to_later a b = (and_parts (is_up_to a (later a b)) (is_up_to b (later a b)) (sym (later_up_to a b (later a b)) ∙ up_to_itself (later a b))).1

-- the lesser of two texts is up to the first
pub earlier_up_to : (a b : Text) → is_up_to (earlier a b) a ≡ true
earlier_up_to a b = cond_both (is_below b a) b a (λ t. is_up_to t a ≡ true) (λ h. up_to_from_below b a h) (λ h. up_to_itself a)

-- the lesser of two texts is up to the second
pub earlier_up_to_second : (a b : Text) → is_up_to (earlier a b) b ≡ true
earlier_up_to_second a b = cond_both (is_below b a) b a (λ t. is_up_to t b ≡ true) (λ h. up_to_itself b) (λ h. up_to_from_not_below b a h)

-- a text of a range names the range's table
pub within_names : (r : Range) (t : Text) → is_range r.low r.high ≡ true → within r t ≡ true → names_table t ≡ true
within_names r t h g =
    let names = and_parts _ (nat_le (length (table_of r.low)) 64) (bounds_of r.low r.high h).names in
    let first = and_parts (has_bar r.low) (nat_le 1 (length (table_of r.low))) names.0 in
    let w = rest_of t (table_of r.low ++ bar ∷ []) (within_begins r t h g) in
    subst (λ u. names_table u ≡ true) (sym (w.1 ∙ append_assoc (table_of r.low) (bar ∷ []) w.0))
    (names_from_name (table_of r.low) w.0 first.1 names.1 (named r.low first.0).2)

-- a bound that begins with a table's name and `|`, or is the name and `}`
abbrev pub EndsTable : Text → Text → Type 0
EndsTable table high = (starts_with nat_eq high (table ++ bar ∷ []) || same high (table ++ brace ∷ [])) ≡ true

-- two bounds within a range, the first below the second, are a range
pub between_is_range : (r : Range) (low high : Text) → is_range r.low r.high ≡ true → nat_le (length low) 513 ≡ true → nat_le (length high) 513 ≡ true → EndsTable (table_of r.low) high →
    is_up_to r.low low ≡ true → is_up_to high r.high ≡ true → is_below low high ≡ true → is_range low high ≡ true
between_is_range r low high h short_low short_high ends from upto below =
    let inside : within r low ≡ true = and_from _ _ from (below_up_to low high r.high below upto) in
    range_from_bounds low high (record {
      short_low = short_low;
      short_high = short_high;
      names = within_names r low h inside;
      ends = subst (λ name. EndsTable name high) (sym (within_table r low h inside)) ends;
      ascend = up_to_from_below low high below;
    })

-- a text that is up to another is not above it
pub not_above : (a b : Text) → is_up_to a b ≡ true → is_gt (text_cmp a b) ≡ false
not_above a b h = by (text_cmp a b) h
  where
    by : (o : Ordering) → is_le o ≡ true → is_gt o ≡ false
    by Less h = refl
    by Equal h = refl
    by Greater h = absurd (false≢true h)
