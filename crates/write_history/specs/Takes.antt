-- What comes of a write under the turn.
use Rattle.std.specs.Prelude.{◌≡◌, ℕ, ◌+◌, [], ◌∷◌, ◌++◌, length, Some, None}
use Rattle.semantics.specs.Histories.{Write, Entry, History}
use Rattle.semantics.specs.Verdicts.{verdict}
use Rattle.join_types.specs.Causes.{plain_cause}
use Rattle.growing_history.specs.Entered.{IsWrite}
use Rattle.write_history.specs.Marks.{before, IsLow}
use Rattle.write_history.specs.Stored.{Stored, IsLog}
use Rattle.write_history.specs.Steps.{Sat}
use Rattle.write_history.specs.declared.fault.AppendFault.{AppendFault}
use Rattle.write_history.specs.declared.fault.AppendFault.TheVariants.{Refused, OutOfMemory}

-- nothing is against the entry after the history, and the log is that of the history with it
pub record Takes (h : History) (floor : ℕ) (e : Entry) (count : ℕ) (log : Stored) : Type 0 where
  pub counted : count ≡ length h + 1
  pub free : verdict e.write h ≡ None
  pub write : IsWrite e.write
  pub is_log : IsLog (h ++ e ∷ []) floor log

-- a refusal carries the number of entries and the verdict after them
abbrev pub SaysVerdict : History → Write → AppendFault → Type 0
SaysVerdict h write (Refused position cause) = (position ≡ length h) × (verdict write h ≡ Some (plain_cause cause))
SaysVerdict h write (OutOfMemory _) = Unit {0}

-- the log that the seat has has taken the entry, and what the seat knows is as it was
pub record Carries (h : History) (e : Entry) (count : ℕ) (m m' : Sat) : Type 0 where
  pub log : Stored
  pub takes : Takes h m.0.lacks e count log
  pub is : m' ≡ (m.0, (0, log) ∷ [])

-- the entry has entered: the seat knows the history with it, has seen it whole, and has its log
pub record Enters (h : History) (e : Entry) (count : ℕ) (m m' : Sat) : Type 0 where
  pub log : Stored
  pub takes : Takes h m.0.lacks e count log
  pub is : m' ≡ (record m.0 { seen = h ++ e ∷ []; held = Some (h ++ e ∷ []) }, (0, log) ∷ [])

-- the entry has not entered: with a verdict the seat has seen the whole history, and without memory nothing has changed
abbrev pub Declines : History → Write → Sat → Sat → AppendFault → Type 0
Declines h write m m' (Refused position cause) = (position ≡ length h) × (verdict write h ≡ Some (plain_cause cause)) × (m' ≡ (record m.0 { seen = h; passed = 0; low = before position }, m.1))
Declines h write m m' (OutOfMemory _) = m' ≡ m

-- the log has dropped its first entries up to a floor, and what the seat knows is as it was
pub record Drops (h : History) (floor : ℕ) (m m' : Sat) : Type 0 where
  pub log : Stored
  pub is_log : IsLog h floor log
  pub is : m' ≡ (m.0, (0, log) ∷ [])

-- the floor is raised, and the log has dropped its first entries up to there
pub record Raises (h : History) (floor : ℕ) (m m' : Sat) : Type 0 where
  pub log : Stored
  pub low : IsLow m.0.mark floor
  pub is_log : IsLog h floor log
  pub is : m' ≡ (record m.0 { floor = floor; lacks = floor }, (0, log) ∷ [])
