-- The line that a load prints.
use Rattle.std.specs.Prelude.{ℕ, ◌+◌, [], ◌∷◌, length, sum_by, codes}
use Rattle.serde_json.specs.Data.{string}
use Rattle.semantics.specs.Texts.{Text, Table, pairs_within}
use Rattle.semantics.specs.Histories.{History}
use Rattle.semantics.specs.States.{state}
use Rattle.key_ranges.specs.Ranges.{prefix_range}
use Rattle.protocol.specs.Rows.{whole_number, row}
use Rattle.load_gen.specs.Entries.{load_history}

-- the bytes of a pair's key and value
abbrev pub pair_bytes : Text × Text → ℕ
pair_bytes pair = length pair.0 + length pair.1

-- what the tables hold: the number of their pairs, and the bytes of all keys and values
pub record Holding : Type 0 where
  pub count : ℕ
  pub bytes : ℕ

-- what the pairs of a list come to
abbrev pub holding_of : Table → Holding
holding_of pairs = record { count = length pairs; bytes = sum_by pair_bytes pairs }

-- what the table whose keys begin with a text holds after a history
abbrev pub table_holding : Text → History → Holding
table_holding prefix h = holding_of (pairs_within (prefix_range prefix) (state h))

-- the line of what tables hold: how many entries there are, the count of each table, and the bytes of all
abbrev pub holding_line : ℕ → Holding → Holding → Holding → Holding → Holding → Text
holding_line entries s p v t karma = row (string (codes "load")
    ∷ whole_number entries
    ∷ whole_number s.count ∷ whole_number p.count ∷ whole_number v.count ∷ whole_number t.count ∷ whole_number karma.count
    ∷ whole_number (s.bytes + p.bytes + v.bytes + t.bytes + karma.bytes)
    ∷ [])

-- the line of a history
abbrev pub history_line : History → Text
history_line h = holding_line (length h)
    (table_holding (codes "s|") h) (table_holding (codes "p|") h) (table_holding (codes "v|") h) (table_holding (codes "t|") h) (table_holding (codes "karma|") h)

-- `LoadLine`: the line of the entries of a load
unfoldable pub load_line : ℕ → ℕ → ℕ → Text
load_line number steps users = history_line (load_history number steps users)
