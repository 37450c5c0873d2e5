-- How scans under way are kept.
use Rattle.std.specs.Prelude.{◌≡◌, ℕ, List, map, true, Some}
use Rattle.std.specs.Map.{lookup}
use Rattle.std.specs.Ordering.{is_eq, is_le, nat_cmp}
use Rattle.semantics.specs.Texts.{text_cmp}
use Rattle.scan_core.specs.declared.scan_table.UnderWay.{UnderWay}
use Rattle.scan_core.specs.Progress.{Progress}

-- a scan that is kept under a number
abbrev pub progress_of : ℕ × UnderWay → Progress
progress_of e = record { scan = record { number = e.0; range = e.1.range; position = e.1.position; place = e.1.place }; pairs = e.1.pairs.items }

-- scans that are kept under their numbers
abbrev pub table_of : List (ℕ × UnderWay) → List Progress
table_of entries = map progress_of entries

-- the place of a scan lies in its range
pub record LiesInRange (w : UnderWay) : Type 0 where
  pub begins : is_le (text_cmp w.range.low w.place) ≡ true
  pub ends : is_le (text_cmp w.place w.range.high) ≡ true

-- so does that of each
abbrev pub AllLieInRange : List (ℕ × UnderWay) → Type 0
AllLieInRange entries = (number : ℕ) (w : UnderWay) → lookup (λ key. is_eq (nat_cmp number key)) entries ≡ Some w → LiesInRange w
