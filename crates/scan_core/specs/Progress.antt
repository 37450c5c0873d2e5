-- Scans under way with the pairs that they have so far.
use Rattle.std.specs.Prelude.{◌≡◌, ℕ, ◌==◌, ◌++◌, List, [], find, map, true, if◌then◌else◌, Option}
use Rattle.std.specs.Ordering.{is_le, is_lt}
use Rattle.semantics.specs.Texts.{Text, text_cmp, Range, Table}
use Rattle.core_events.specs.Plain.{Scan, placed, goes_on}

-- a scan under way, and its pairs up to its place
pub record Progress : Type 0 where
  pub scan : Scan
  pub pairs : Table

-- the scan with a number, if there is one
abbrev pub progress_at : ℕ → List Progress → Option Progress
progress_at number table = find (λ g. g.scan.number == number) table

-- the scans alone
abbrev pub scans_of : List Progress → List Scan
scans_of table = map (λ g. g.scan) table

-- a scan that begins over a range, after so many entries
abbrev pub begun : ℕ → Range → ℕ → Progress
begun number range position = record { scan = record { number = number; range = range; position = position; place = range.low }; pairs = [] }

-- a scan that is answered up to a text, with more pairs
abbrev pub further : Text → Table → Progress → Progress
further upto more g = record { scan = placed upto g.scan; pairs = g.pairs ++ more }

-- a number has a scan, or none, and each other number has what it had
abbrev pub Puts : ℕ → Option Progress → List Progress → List Progress → Type 0
Puts number found before after = (other : ℕ) → progress_at other after ≡ (if other == number then found else progress_at other before)

-- ---- the next part of a scan

-- the range from a scan's place up to a text
abbrev pub next_range : Scan → Text → Range
next_range scan upto = record { low = scan.place; high = upto }

-- a part of a scan up to a text that goes on from its place, which is not before its first bound
pub record IsNext (upto : Text) (g : Progress) (range : Range) (position : ℕ) : Type 0 where
  pub goes : goes_on upto g.scan ≡ true
  pub begins : is_le (text_cmp g.scan.range.low g.scan.place) ≡ true
  pub from : range ≡ next_range g.scan upto
  pub after : position ≡ g.scan.position

-- ---- scans that end

-- a scan that is answered up to its last bound ends with its position and its pairs
pub record IsEnded (g : Progress) (position : ℕ) (pairs : Table) : Type 0 where
  pub whole : g.scan.place ≡ g.scan.range.high
  pub from : position ≡ g.scan.position
  pub all : pairs ≡ g.pairs

-- a scan is not answered up to its last bound
abbrev pub IsShort : Progress → Type 0
IsShort g = is_lt (text_cmp g.scan.place g.scan.range.high) ≡ true
