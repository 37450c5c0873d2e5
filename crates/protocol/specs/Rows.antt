-- Rows: one JSON array on a line of its own.
use Rattle.std.specs.Prelude.{ℕ, List, [], ◌∷◌, ◌++◌}
use Rattle.serde_json.specs.Data.{Data, number, array, unsigned}
use Rattle.serde_json.specs.View.{items_of}
use Rattle.serde_json.specs.Written.{compact_text}
use Rattle.semantics.specs.Texts.{Text}

abbrev pub whole_number : ℕ → Data
whole_number n = number (unsigned n)

abbrev pub list_of : List Data → Data
list_of items = array (items_of items)

-- the compact text of the array (RFC 8259), and the byte 10
abbrev pub row : List Data → Text
row items = compact_text (list_of items) ++ 10 ∷ []
