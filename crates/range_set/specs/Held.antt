-- Ranges that are kept, each with an item.
use Rattle.std.specs.Prelude.{◌&&◌, List, [], ◌∷◌, filter, Bool, true, not, Option, if◌then◌else◌}
use Rattle.std.specs.List.{list_all}
use Rattle.std.specs.Map.{lookup}
use Rattle.std.specs.Ordering.{is_le}
use Rattle.semantics.specs.Texts.{Text, same, text_cmp, table_of, Range}
use Rattle.key_ranges.specs.Ranges.{is_below, is_open, meets}

-- ranges, each with its item
abbrev pub Held : Type 0 → Type 0
Held T = List (Range × T)

-- whether two ranges have the same bounds
abbrev pub same_range : Range → Range → Bool
same_range r s = same r.low s.low && same r.high s.high

-- whether a range meets none of those that are kept
abbrev pub is_free : {T : Type 0} → Held T → Range → Bool
is_free held r = list_all (λ e. not (meets e.0 r)) held

-- whether no range is empty, and each ends before or where those after it begin
abbrev pub are_apart : {T : Type 0} → Held T → Bool
are_apart [] = true
are_apart (e ∷ es) = is_open e.0 && list_all (λ f. is_le (text_cmp e.0.high f.0.low)) es && are_apart es

-- whether all ranges are of the table with this name
abbrev pub are_of_table : {T : Type 0} → Held T → Text → Bool
are_of_table held name = list_all (λ e. same (table_of e.0.low) name) held

-- whether all ranges are of one table
abbrev pub are_of_one_table : {T : Type 0} → Held T → Bool
are_of_one_table [] = true
are_of_one_table (e ∷ es) = are_of_table es (table_of e.0.low)

-- the ranges with one more, in front of those that begin behind it
abbrev pub with_range : {T : Type 0} → Range → T → Held T → Held T
with_range r item [] = (r, item) ∷ []
with_range r item (e ∷ es) = if is_below r.low e.0.low then (r, item) ∷ e ∷ es else e ∷ with_range r item es

-- the ranges without the one that has these bounds
abbrev pub without_range : {T : Type 0} → Range → Held T → Held T
without_range r held = filter (λ e. not (same_range r e.0)) held

-- the item of the range that has these bounds, if one has
abbrev pub item_of : {T : Type 0} → Range → Held T → Option T
item_of r held = lookup (same_range r) held
