-- The range from a scan's place up to a text that goes on from there.
use Rattle.std.proofs.Common.{◌≡◌, ◌||◌, ◌++◌, ◌∷◌, [], true, false, nat_eq, nat_le, length, refl, sym, ap, subst}
use Rattle.std.specs.List.{starts_with}
use Rattle.std.proofs.lemmas.Bool.{and_parts, and_from}
use Rattle.semantics.specs.Texts.{Text, bar, brace, same, table_of, names_table, is_range, Range}
use Rattle.key_ranges.specs.Ranges.{is_below}
use Rattle.key_ranges.proofs.OrderLemmas.{is_up_to, up_to_trans, up_to_from_below}
use Rattle.key_ranges.proofs.RangeLemmas.{bounds_of, within_begins}
use Rattle.range_set.proofs.BoundLemmas.{EndsTable, equal_bounds, between_is_range}
use Rattle.core_events.specs.Events.{closes_table, is_bound}

-- a bound up to a range's last one, from its first on, is of the range's table
ends_table : (r : Range) (upto : Text) → is_range r.low r.high ≡ true → is_up_to r.low upto ≡ true → is_up_to upto r.high ≡ true → EndsTable (table_of r.low) upto
ends_table r upto h from ends =
    elim (is_below upto r.high) as (λ b. is_below upto r.high ≡ b → EndsTable (table_of r.low) upto) [
      | true ↦ λ below. ap (λ b. b || same upto (table_of r.low ++ brace ∷ [])) (within_begins r upto h (and_from _ _ from below))
      | false ↦ λ not_below. subst (EndsTable (table_of r.low)) (sym (equal_bounds upto r.high ends not_below)) (bounds_of r.low r.high h).ends
    ] refl

-- a bound has at most 513 bytes
short_bound : (t : Text) → is_bound t ≡ true → nat_le (length t) 513 ≡ true
short_bound t h = (and_parts (nat_le (length t) 513) (names_table t || closes_table t) h).0

-- two bounds within a range, the first below the second, are a range
pub next_is_range : (r : Range) (place upto : Text) → is_range r.low r.high ≡ true → is_bound place ≡ true → is_bound upto ≡ true →
    is_up_to r.low place ≡ true → is_below place upto ≡ true → is_up_to upto r.high ≡ true → is_range place upto ≡ true
next_is_range r place upto h bound_place bound_upto from below ends =
    between_is_range r place upto h (short_bound place bound_place) (short_bound upto bound_upto)
    (ends_table r upto h (up_to_trans r.low place upto from (up_to_from_below place upto below)) ends) from ends below
