-- Rows as they lie in the bytes of a leaf.
use Rattle.std.specs.Prelude.{◌≡◌, ℕ, ◌+◌, ◌<◌, ◌≤◌, ◌++◌, List, length, map, take, drop, true}
use Rattle.std.specs.List.{AllByRecursion}
use Rattle.std.specs.Str.{is_utf8}
use Rattle.std.specs.FinMap.Entries.{is_sorted}
use Rattle.semantics.specs.Texts.{Text, is_key, is_value, text_cmp, Table}
use Rattle.join_rows.specs.declared.entry.Entry.{Entry}

-- so many bytes from a place on
abbrev pub part_of : Text → ℕ → ℕ → Text
part_of bytes start count = take count (drop start bytes)

-- the key and the value of an entry
abbrev pub row_of : Text → Entry → Text × Text
row_of bytes e = (part_of bytes e.start e.key_len, part_of bytes (e.start + e.key_len) e.value_len)

-- the rows of entries, in order
abbrev pub rows_of : Text → List Entry → Table
rows_of bytes entries = map (row_of bytes) entries

-- the texts of an entry lie within the bytes, and their lengths have 16 and 32 bits
pub record IsWithin (bytes : Text) (e : Entry) : Type 0 where
  pub fits : e.start + e.key_len + e.value_len ≤ length bytes
  pub short_key : e.key_len < 65536
  pub short_value : e.value_len < 4294967296

-- bytes with more behind them
abbrev pub Grows : Text → Text → Type 0
Grows bytes new = (more : Text) × (new ≡ bytes ++ more)

-- a key and a value, which are text
pub record IsRow (row : Text × Text) : Type 0 where
  pub key : is_key row.0 ≡ true
  pub key_text : is_utf8 row.0 ≡ true
  pub value : is_value row.1 ≡ true
  pub value_text : is_utf8 row.1 ≡ true

-- keys and values that are text, keys ascending
pub record AreRows (rows : Table) : Type 0 where
  pub each : AllByRecursion (λ row. IsRow row) rows
  pub ascending : is_sorted text_cmp rows ≡ true

-- each entry lies within the bytes, and the rows are keys and values, keys ascending
pub record AreLaid (bytes : Text) (entries : List Entry) : Type 0 where
  pub within : AllByRecursion (λ e. IsWithin bytes e) entries
  pub rows : AreRows (rows_of bytes entries)

-- entries that are laid, with these rows
pub record LaidAs (rows : Table) (bytes : Text) (entries : List Entry) : Type 0 where
  pub laid : AreLaid bytes entries
  pub is : rows_of bytes entries ≡ rows
