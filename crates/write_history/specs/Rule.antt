-- The rule of the table that a history's passes share.
use Rattle.std.specs.Prelude.{◌≡◌, ◌≢◌, ◌⊎◌, ℕ, ◌<◌, ◌≤◌, List, [], ◌∷◌, ◌++◌, length, replicate, Some, None}
use mathlib.Core.Option.{some, none}
use mathlib.Core.Option as maybe
use lib.ListN.{get_elem?}
use Rattle.atomic_table.specs.Table.{State}
use Rattle.semantics.specs.Histories.{History, IsPrefix}
use Rattle.write_history.specs.Entries.{IsRecorded}
use Rattle.write_history.specs.Stored.{Stored, IsLog}
use Rattle.write_history.specs.Lines.{lines}
use Rattle.write_history.specs.Marks.{before, no_pin, pins, words_of, AllAllow}
use Rattle.write_history.specs.Seats.{HasOwn, KnowsKinds, HasMark, Apart}
use Rattle.write_history.specs.declared.known.Kinds.{Kinds}
use Rattle.write_history.specs.declared.known.Known.{Known}
use Rattle.write_history.specs.declared.known.Mark.TheVariants.{Plain}
use Rattle.write_history.specs.declared.known.Role.TheVariants.{Deals}

-- what a seat knows is true of the history: it has seen and was told beginnings of it, has all its own entries, and has seen a floor that was reached
pub record Fits (kinds : Kinds) (words : List ℕ) (h : History) (floor : ℕ) (v : Known) : Type 0 where
  pub knows : KnowsKinds kinds v.kinds v.role
  pub marked : HasMark kinds words v.role v.mark
  pub seen : IsPrefix v.seen h
  pub told : IsPrefix v.told h
  pub own : HasOwn h v.seen v.role
  pub reached : v.floor ≤ floor

-- nobody has the turn, and the log is at home
pub record IsFree (h : History) (floor turn : ℕ) (homes : List (maybe.Option Stored)) (views : List Known) : Type 0 where
  pub free : turn ≡ 0
  pub log : Stored
  pub home : homes ≡ some log ∷ []
  pub is_log : IsLog h floor log
  pub nobody : (seat : ℕ) (v : Known) → get_elem? views seat ≡ some v → v.held ≡ None

-- what the holder of the turn knows: the whole history, the floor, and a floor that the number of entries and the words that it has looked at allow
pub record Holds (kinds : Kinds) (words : List ℕ) (h : History) (floor : ℕ) (v : Known) : Type 0 where
  pub held : v.held ≡ Some h
  pub lacks : v.lacks ≡ floor
  pub counted : v.low ≤ before (length h)
  pub passed : AllAllow kinds v.passed v.low words

-- one seat has the turn, and with it the log
pub record IsTaken (kinds : Kinds) (words : List ℕ) (h : History) (floor turn : ℕ) (homes : List (maybe.Option Stored)) (views : List Known) : Type 0 where
  pub taken : 0 < turn
  pub away : homes ≡ none ∷ []
  pub holder : ℕ
  pub seated : holder < length views
  pub holds : (v : Known) → get_elem? views holder ≡ some v → Holds kinds words h floor v
  pub others : (seat : ℕ) (v : Known) → seat ≢ holder → get_elem? views seat ≡ some v → v.held ≡ None

-- the table is that of a history: the words are one that never changes, the turn, the history's length, the number of first entries that the log lacks, and the words of the passes, which allow it; each is on a line of its own
pub record Keeps (kinds : Kinds) (s : State Stored Known) : Type 0 where
  pub history : History
  pub turn : ℕ
  pub floor : ℕ
  pub marks : List ℕ
  pub words : s.words ≡ lines (0 ∷ turn ∷ length history ∷ floor ∷ marks)
  pub counted : floor ≤ before (length history)
  pub enough : length marks ≡ words_of kinds
  pub allowing : AllAllow kinds (words_of kinds) floor marks
  pub recorded : IsRecorded kinds.writers history
  pub fits : (seat : ℕ) (v : Known) → get_elem? s.views seat ≡ some v → Fits kinds marks history floor v
  pub apart : (seat other : ℕ) (v w : Known) → seat ≢ other → get_elem? s.views seat ≡ some v → get_elem? s.views other ≡ some w → Apart v.role w.role
  pub place : IsFree history floor turn s.homes s.views ⊎ IsTaken kinds marks history floor turn s.homes s.views

-- the first seat, which will deal the numbers
abbrev pub dealer : Kinds → Known
dealer kinds = record { role = Deals 0; kinds = kinds; mark = Plain; floor = 0; seen = []; told = []; held = None; lacks = 0; passed = 0; low = 0 }

-- the words of the passes at the start
abbrev pub first_words : Kinds → List ℕ
first_words kinds = replicate (pins kinds) no_pin ++ replicate kinds.shards 0
