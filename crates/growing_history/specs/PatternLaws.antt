-- Further laws on patterns and on the keys of tables.
use Rattle.std.specs.Prelude.{◌≡◌, ◌↔◌, [], ◌∷◌, ◌++◌, length, true, false, Some}
use Rattle.semantics.specs.Texts.{Text, bar, brace, has_bar, table_of, names_table, is_key, Range, is_range, within}
use Rattle.semantics.specs.Patterns.{Pattern, Slots, is_pattern, bind, fill, overlaps}

-- whether two patterns overlap does not depend on which is first
abbrev pub OverlapIsMutual : Type 0
OverlapIsMutual = (p q : Pattern) → overlaps p q ≡ overlaps q p

-- `bind` gives slots of as many places as the given ones
abbrev pub BindKeepsPlaces : Type 0
BindKeepsPlaces = (p : Pattern) (key : Text) (given found : Slots) → bind p key given ≡ Some found → length found ≡ length given

-- what a pattern is filled to is a key
abbrev pub FillIsKey : Type 0
FillIsKey = (p : Pattern) (given : Slots) (key : Text) → is_pattern p ≡ true → fill p given ≡ Some key → is_key key ≡ true

-- the range of a table T, from `T|` to `T}`
abbrev pub table_range : Text → Range
table_range name = record { low = name ++ bar ∷ []; high = name ++ brace ∷ [] }

-- a key is of a table exactly where it lies in the table's range
abbrev pub TableHasRange : Type 0
TableHasRange = (name key : Text) → has_bar name ≡ false → is_key key ≡ true →
    (table_of key ≡ name) ↔ (within (table_range name) key ≡ true)

-- the range of a table is a range
abbrev pub TableRangeIsRange : Type 0
TableRangeIsRange = (name : Text) → has_bar name ≡ false → names_table (name ++ bar ∷ []) ≡ true →
    is_range (table_range name).low (table_range name).high ≡ true
