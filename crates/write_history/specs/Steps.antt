-- What each step on the table tells the seat that makes it.
use Rattle.std.specs.Prelude.{◌≡◌, ◌≢◌, ℕ, List, [], ◌∷◌, ◌++◌, length, take, nat_le, max, min, ◌+◌, ◌*◌, ◌≤◌, if◌then◌else◌, Option, Some, None}
use Rattle.atomic_table.specs.Table.{Me, rest}
use Rattle.atomic_table.specs.Seated.{TableId}
use Rattle.semantics.specs.Histories.{History, IsPrefix}
use Rattle.write_history.specs.Entries.{IsRecorded}
use Rattle.write_history.specs.Stored.{Stored, IsLog}
use Rattle.write_history.specs.Marks.{before, words_of, allowed, IsLow, IsPlaced}
use Rattle.write_history.specs.Seats.{HasOwn, role_left, role_dealt, mark_dealt}
use Rattle.write_history.specs.declared.known.Kinds.{Kinds}
use Rattle.write_history.specs.declared.known.Mark.{Mark}
use Rattle.write_history.specs.declared.known.Mark.TheVariants.{Plain, Pinned}
use Rattle.write_history.specs.declared.known.Known.{Known}
use Rattle.write_history.specs.declared.known.Role.TheVariants.{Numbered, Notes}

-- a seat: what it knows, and the log while it has it
abbrev pub Sat : Type 0
Sat = Me Stored Known

-- the table has a line for a word that never changes, for the turn, for the number of entries, for the floor, and for each word of a pass
abbrev pub IsSized : Kinds → TableId → Type 0
IsSized kinds table = table.words ≡ 8 * (4 + words_of kinds)

-- ---- the turn

-- the seat has taken the turn, and with it the log of a history that begins with all that it had seen and has no entries of its number besides
pub record TakesTurn (m m' : Sat) : Type 0 where
  pub history : History
  pub floor : ℕ
  pub log : Stored
  pub low : IsLow m.0.mark floor
  pub reached : m.0.floor ≤ floor
  pub is_log : IsLog history floor log
  pub recorded : IsRecorded m.0.kinds.writers history
  pub begins : IsPrefix m.0.seen history
  pub own : HasOwn history m.0.seen m.0.role
  pub is : m' ≡ (record m.0 { held = Some history; lacks = floor; passed = 0; low = 0 }, (0, log) ∷ m.1)

-- take the turn, and the log with it, where the turn is found free; otherwise nothing changes
abbrev pub took : Sat → ℕ → Sat → Type 0
took m found m' = (found ≡ 0 → TakesTurn m m') × (found ≢ 0 → m' ≡ m)

-- put the log back, and free the turn
abbrev pub freed : Sat → ℕ → Sat → Type 0
freed m found m' = m' ≡ (record m.0 { held = None }, rest m.1)

-- ---- under the turn

-- the history that the holder of the turn knows
abbrev pub held_or : History → Option History → History
held_or other None = other
held_or other (Some h) = h

abbrev pub held_by : Known → History
held_by v = held_or [] v.held

-- look: all entries are seen, their number is found, and no word of a pass is looked at yet
abbrev pub looked : Sat → ℕ → Sat → Type 0
looked m found m' = (found ≡ length (held_by m.0)) × (m.0.lacks ≤ before found) × (m' ≡ (record m.0 { seen = held_by m.0; passed = 0; low = before found }, m.1))

-- the next word of a pass is looked at
abbrev pub passing : Sat → ℕ → Sat → Type 0
passing m found m' = (m.0.lacks ≤ allowed m.0.kinds m.0.passed found) × (m' ≡ (record m.0 { passed = m.0.passed + 1; low = min m.0.low (allowed m.0.kinds m.0.passed found) }, m.1))

-- the floor is raised to one that all words allow
abbrev pub raised : Sat → ℕ → Sat → Type 0
raised m found m' = IsLow m.0.mark m.0.low × (m' ≡ (record m.0 { floor = m.0.low; lacks = m.0.low }, m.1))

-- the pass is pinned after all entries, which it has seen
abbrev pub pinned : Sat → ℕ → Sat → Type 0
pinned m found m' = m' ≡ (record m.0 { mark = Pinned (length (held_by m.0)); passed = 0 }, m.1)

-- the pass's word says something else now
abbrev pub marked : Mark → Sat → ℕ → Sat → Type 0
marked mark m found m' = m' ≡ (record m.0 { mark = mark }, m.1)

-- the entries that are stored in the log which the seat has
abbrev pub stored_in : List (ℕ × Stored) → History
stored_in [] = []
stored_in (x ∷ xs) = x.1.entries

-- the whole history, by the log that the seat has
abbrev pub whole_by : Sat → History
whole_by m = take m.0.lacks (held_by m.0) ++ stored_in m.1

-- the seat has the turn, and the log of the history
pub record HasLog (h : History) (log : Stored) (m : Sat) : Type 0 where
  pub held : m.0.held ≡ Some h
  pub carried : m.1 ≡ (0, log) ∷ []
  pub is_log : IsLog h m.0.lacks log

-- enter: what the log has is the history now, and is seen
abbrev pub entered : Sat → ℕ → Sat → Type 0
entered m found m' = m' ≡ (record m.0 { seen = whole_by m; held = Some (whole_by m) }, m.1)

-- the pass has looked at its own word, which says where it is pinned, if it is
abbrev pub reread : Sat → ℕ → Sat → Type 0
reread m found m' = ((position : ℕ) → m.0.mark ≡ Pinned position → found ≡ position) × (m' ≡ m)

-- ---- numbers and notes

-- what is left of the seat that deals the numbers, and the seat of the next number
abbrev pub dealing : Known → Known
dealing v = record v { role = role_left v.role }

abbrev pub dealt : Known → Known
dealt v = record { role = role_dealt v.role; kinds = v.kinds; mark = mark_dealt v.kinds v.role; floor = 0; seen = []; told = []; held = None; lacks = 0; passed = 0; low = 0 }

-- a note of what the seat has seen
abbrev pub note_of : Known → Known
note_of v = record { role = Notes; kinds = v.kinds; mark = Plain; floor = v.floor; seen = v.seen; told = []; held = None; lacks = 0; passed = 0; low = 0 }

-- a note that was read
abbrev pub read_note : Known
read_note = record { role = Notes; kinds = record { writers = 0; pinned = 0; shards = 0 }; mark = Plain; floor = 0; seen = []; told = []; held = None; lacks = 0; passed = 0; low = 0 }

-- the seat is told what the note says
abbrev pub informed : Known → Known → Known
informed v w = record v { floor = max v.floor w.floor; told = w.seen }

-- the longer of two lists
abbrev pub longer : History → History → History
longer a b = if nat_le (length a) (length b) then b else a

-- what the seat has seen and what it was told are beginnings of one list, and now it has seen the longer, which has no entries of its number besides
pub record Agrees (m m' : Sat) : Type 0 where
  pub begins : IsPrefix m.0.seen (longer m.0.seen m.0.told)
  pub told : IsPrefix m.0.told (longer m.0.seen m.0.told)
  pub own : HasOwn (longer m.0.seen m.0.told) m.0.seen m.0.role
  pub low : IsLow m.0.mark m.0.floor
  pub recorded : IsRecorded m.0.kinds.writers (longer m.0.seen m.0.told)
  pub is : m' ≡ (record m.0 { seen = longer m.0.seen m.0.told; told = [] }, m.1)

-- look without the turn
abbrev pub agreed : Sat → ℕ → Sat → Type 0
agreed m found m' = Agrees m m'

-- between calls a pass has its number and a view that may stand in a history, and neither the turn nor a note
pub record IsResting (number : ℕ) (m : Sat) : Type 0 where
  pub numbered : m.0.role ≡ Numbered number
  pub empty : m.1 ≡ []
  pub none_told : m.0.told ≡ []
  pub none_held : m.0.held ≡ None
  pub recorded : IsRecorded m.0.kinds.writers m.0.seen
  pub low : IsLow m.0.mark m.0.floor
  pub placed : IsPlaced m.0.kinds number m.0.mark

-- the seat was told of entries: it has seen the longer of these and of what it had seen, which begins with both and has no entries of its number besides
pub record Learns (m : Sat) (told : History) (floor : ℕ) (m' : Sat) : Type 0 where
  pub begins : IsPrefix m.0.seen m'.0.seen
  pub knows : IsPrefix told m'.0.seen
  pub longer_is : m'.0.seen ≡ longer m.0.seen told
  pub own : HasOwn m'.0.seen m.0.seen m.0.role
  pub recorded : IsRecorded m.0.kinds.writers m'.0.seen
  pub same_role : m'.0.role ≡ m.0.role
  pub same_kinds : m'.0.kinds ≡ m.0.kinds
  pub same_mark : m'.0.mark ≡ m.0.mark
  pub floor_is : m'.0.floor ≡ max m.0.floor floor
  pub low : IsLow m'.0.mark m'.0.floor
  pub empty : m'.1 ≡ m.1
  pub none_told : m'.0.told ≡ []
  pub none_held : m'.0.held ≡ m.0.held
