-- The parts of a text that is read as a key or as a bound.
use Rattle.std.specs.Prelude.{◌≡◌, ◌&&◌, ◌||◌, ◌++◌, ◌∷◌, [], length, nat_le, nat_eq, Bool, true, false, Option, MatchOption}
use Rattle.std.specs.Borrow.{Bor}
use Rattle.std.specs.List.{starts_with}
use Rattle.semantics.specs.Texts.{Text, bar, brace, same, has_bar, table_of}

-- the text has a `|`, and this stands before the first
abbrev pub BeginsWith : Text → Bor Text → Type 0
BeginsWith text table = (has_bar text ≡ true) × (table.now ≡ table_of text)

-- what stands before the first `|` of the text, where it has one
abbrev pub FindsTable : Text → Option (Bor Text) → Type 0
FindsTable text found = MatchOption found (has_bar text ≡ false) (BeginsWith text)

-- a table's name has 1 to 64 bytes
abbrev pub is_table_name : Text → Bool
is_table_name table = nat_le 1 (length table) && nat_le (length table) 64

-- whether a last bound is of the table: it begins with the name and `|`, or is the name and `}`
abbrev pub ends_table : Text → Text → Bool
ends_table table high = starts_with nat_eq high (table ++ bar ∷ []) || same high (table ++ brace ∷ [])
