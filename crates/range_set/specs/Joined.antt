-- Ranges that join to one range.
use Rattle.std.specs.Prelude.{◌≡◌, List, [], ◌∷◌, count_by, true, if◌then◌else◌}
use Rattle.std.specs.List.{Contains, flat_map}
use Rattle.std.specs.Ordering.{is_le}
use Rattle.std.specs.FinMap.Entries.{is_sorted}
use Rattle.semantics.specs.Texts.{Text, text_cmp, table_of, is_range, Range, within, Table, pairs_within}
use Rattle.key_ranges.specs.Ranges.{is_open}

-- ranges that join from one bound to another: none is empty, and each begins where the one before it ends
abbrev pub JoinFrom : Text → Text → List Range → Type 0
JoinFrom low high [] = low ≡ high
JoinFrom low high (r ∷ rs) = (r.low ≡ low) × (is_open r ≡ true) × JoinFrom r.high high rs

-- ranges that join to a range: none is empty, the first begins where it begins, each other where the one before ends, and the last ends where it ends
abbrev pub JoinTo : Range → List Range → Type 0
JoinTo whole rs = JoinFrom whole.low whole.high rs

-- the first range lies in the second, by its bounds and by its keys
pub record LiesIn (whole r : Range) : Type 0 where
  pub low : is_le (text_cmp whole.low r.low) ≡ true
  pub high : is_le (text_cmp r.high whole.high) ≡ true
  pub keys : (key : Text) → within r key ≡ true → within whole key ≡ true

-- ---- laws

-- of ranges that join to a range, each key of it lies in exactly one, and each other key in none
abbrev pub JoinedHoldOnce : Type 0
JoinedHoldOnce = (whole : Range) (rs : List Range) (key : Text) → JoinTo whole rs →
    count_by (λ r. within r key) rs ≡ (if within whole key then 1 else 0)

-- the pairs of a table in ranges that join to a range, one after another, are its pairs in that range
abbrev pub JoinedHavePairs : Type 0
JoinedHavePairs = (whole : Range) (rs : List Range) (table : Table) → is_sorted text_cmp table ≡ true → JoinTo whole rs →
    flat_map (λ r. pairs_within r table) rs ≡ pairs_within whole table

-- ranges that join to a range lie in it
abbrev pub JoinedLieIn : Type 0
JoinedLieIn = (whole : Range) (rs : List Range) (r : Range) → JoinTo whole rs → Contains rs r → LiesIn whole r

-- ranges that join to a range are of its table
abbrev pub JoinedAreOfTable : Type 0
JoinedAreOfTable = (whole : Range) (rs : List Range) (r : Range) → is_range whole.low whole.high ≡ true → JoinTo whole rs → Contains rs r →
    table_of r.low ≡ table_of whole.low
