-- Texts in byte order; keys, values and ranges; tables of pairs.
use Rattle.std.specs.Prelude.{ℕ, ◌&&◌, ◌||◌, ◌==◌, List, [], ◌∷◌, ◌++◌, length, Bool, not, nat_le, Option, bytes_eq}
use Rattle.std.specs.List.{list_any, starts_with, before_first}
use Rattle.std.specs.Prelude.{nat_eq}
use Rattle.std.specs.declared.cmp.Ordering.{Ordering}
use Rattle.std.specs.Ordering.{nat_cmp, is_lt, is_le}
use Rattle.std.specs.Cmp.Lexicographic.{slice_cmp}
use Rattle.std.specs.FinMap.Entries.{put, find, where_key}

-- a text is the list of its bytes; the texts of keys, values and joins are UTF-8 (RFC 3629), since the calls that read them take a `&str`, so that no test below asks it again
abbrev pub Text : Type 0
Text = List ℕ

-- the byte `|`, which ends a table's name and stands between segments
abbrev pub bar : ℕ
bar = 124

-- the byte `}`, the next after `|`
abbrev pub brace : ℕ
brace = 125

-- whether two texts are the same
abbrev pub same : Text → Text → Bool
same = bytes_eq

-- `Order`: byte order of texts
abbrev pub text_cmp : Text → Text → Ordering
text_cmp = slice_cmp nat_cmp

-- whether the byte `|` stands in a text
abbrev pub has_bar : Text → Bool
has_bar = list_any (λ b. b == bar)

-- the name of a key's table: what stands before its first `|`
abbrev pub table_of : Text → Text
table_of = before_first (λ b. b == bar)

-- whether a text begins with a table's name of 1 to 64 bytes and `|`
abbrev pub names_table : Text → Bool
names_table t = has_bar t && nat_le 1 (length (table_of t)) && nat_le (length (table_of t)) 64

-- a key has at most 512 bytes and begins with a table's name and `|`
abbrev pub is_key : Text → Bool
is_key t = nat_le (length t) 512 && names_table t

-- a value has at most 65,536 bytes
abbrev pub is_value : Text → Bool
is_value t = nat_le (length t) 65536

-- a range is its two bounds
pub record Range : Type 0 where
  pub low : Text
  pub high : Text

-- whether a last bound is of the first one's table T: it begins with `T|`, or is `T}`
abbrev pub ends_range : Text → Text → Bool
ends_range low high = starts_with nat_eq high (table_of low ++ bar ∷ []) || same high (table_of low ++ brace ∷ [])

-- the bounds are a range: of at most 513 bytes, of one table T, the first beginning with `T|` and the last with `T|` or being `T}`, in order
abbrev pub is_range : Text → Text → Bool
is_range low high =
    nat_le (length low) 513 && nat_le (length high) 513 && names_table low
    && ends_range low high && is_le (text_cmp low high)

-- whether a key lies in a range: from its first bound on, and below its last
abbrev pub within : Range → Text → Bool
within range key = is_le (text_cmp range.low key) && is_lt (text_cmp key range.high)

-- a table is a list of pairs of a key and a value, its keys ascending
abbrev pub Table : Type 0
Table = List (Text × Text)

-- the value at a key, if there is one
abbrev pub value_at : Text → Table → Option Text
value_at key table = find text_cmp key table

-- the table with this value at the key, whatever stood there
abbrev pub with_pair : Text → Text → Table → Table
with_pair key value table = put text_cmp key value table

-- the pairs whose keys pass a test
abbrev pub pairs_where : (Text → Bool) → Table → Table
pairs_where test table = where_key text_cmp test table

-- the table without the key
abbrev pub without_key : Text → Table → Table
without_key key = pairs_where (λ k. not (same k key))

-- the pairs of a table whose keys lie in the range
abbrev pub pairs_within : Range → Table → Table
pairs_within range = pairs_where (within range)
