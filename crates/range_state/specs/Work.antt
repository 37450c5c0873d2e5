-- What filling, advancing and mending leave, and what they cost.
use Rattle.std.specs.Prelude.{◌≡◌, ℕ, ◌+◌, ◌<◌, ◌≤◌, ◌⊎◌, List, [], ◌∷◌, map, filter, flat_map, length, take, Any, Contains, Bool, true, false, Option, Some, None}
use Rattle.std.specs.List.{AllByRecursion, sum_by}
use Rattle.std.specs.Option.{IsSomeAnd}
use Rattle.semantics.specs.Texts.{Text, Table, Range, pairs_within}
use Rattle.semantics.specs.Patterns.{Slots, bind}
use Rattle.semantics.specs.Joins.{is_check, Join}
use Rattle.semantics.specs.Histories.{History, joins_of}
use Rattle.semantics.specs.Outputs.{out}
use Rattle.semantics.specs.States.{below}
use Rattle.growing_history.specs.Changes.{changed_keys}
use Rattle.key_ranges.specs.Containing.{range_slots, only}
use Rattle.range_evaluation.specs.Trees.{Need, tree, reading_steps}
use Rattle.range_state.specs.Asking.{asking_steps, changed_count}
use Rattle.lazy_log.specs.Pending.{meets_output, NotesOnce}
use Rattle.join_rows.specs.Kept.{KeptRows}
use Rattle.join_eval.specs.Bounds.{Allows, Exceeds}
use Rattle.join_eval.specs.Walks.{AreBare}
use Rattle.kept_ranges.specs.Notes.{Mark, key, slots, Note, note_limit, noted}
use Rattle.kept_ranges.specs.Rules.{source_of, output_of, IsFilled}
use Rattle.kept_ranges.specs.Sound.{KeptRange}
use Rattle.range_state.specs.Ready.{StandsAt}

-- the most steps of an advance from q to p over bare ranges: to ask for each need, one, and one for each changed key of its range
abbrev pub advance_steps : History → ℕ → ℕ → List Need → ℕ
advance_steps h q p needs = asking_steps q p h needs

-- the key is one of a check need's range that the entries q + 1 to p put or remove
abbrev pub IsTouchedBy : History → ℕ → ℕ → KeptRange → Text → Need → Type 0
IsTouchedBy h q p s changed need = IsSomeAnd (source_of s.join need) (λ source. is_check source.operator ≡ true) × Contains (changed_keys q p need.range h) changed

-- a touched key: so it is for some need
abbrev pub IsTouched : History → ℕ → ℕ → KeptRange → Text → Type 0
IsTouched h q p s changed = Any (IsTouchedBy h q p s changed) s.kept.needs

-- the slots are made of a check need and a touched key of its range, which fits the need's source: those of the output that both set
pub record AreTouchedSlots (h : History) (q p : ℕ) (s : KeptRange) (given : Slots) : Type 0 where
  pub need : Need
  pub has_need : Contains s.kept.needs need
  pub key : Text
  pub touched : IsTouchedBy h q p s key need
  pub made : IsSomeAnd (source_of s.join need) (λ source. IsSomeAnd (bind source.pattern key need.slots) (λ bound. only s.join.output bound ≡ given))

-- the output key is filled by a key of a value need's range that the entries q + 1 to p put or remove
pub record IsFilledBy (h : History) (q p : ℕ) (s : KeptRange) (output : Text) : Type 0 where
  pub need : Need
  pub has_need : Contains s.kept.needs need
  pub of_value : IsSomeAnd (source_of s.join need) (λ source. is_check source.operator ≡ false)
  pub key : Text
  pub changed : Contains (changed_keys q p need.range h) key
  pub fills : output_of s.join need key ≡ Some output

-- a mark is of what an advance touches: slots that are made of a touched key, or an output key that a changed key fills
abbrev pub IsMarkOf : History → ℕ → ℕ → KeptRange → Mark → Type 0
IsMarkOf h q p s (key output) = IsFilledBy h q p s output
IsMarkOf h q p s (slots given) = AreTouchedSlots h q p s given

-- slots are noted one after another, each of them once
abbrev pub NotesEach : List Slots → List Slots → List Slots → Type 0
NotesEach [] old new = new ≡ old
NotesEach (given ∷ others) old new = (mid : List Slots) × (NotesOnce given old mid × NotesEach others mid new)

-- an advance over bare ranges touches little: what is pending was, or is made of a touched key, and is noted once; a need stays unless it came by one, those that stay are as they were and in their order, and none is added; the notes that it adds are made at p of what is touched, and are no more than the keys that changed in the ranges of the needs; and the notes' start stays unless more are made than there is room for
pub record TouchesLittle (h : History) (q p : ℕ) (before after : KeptRange) : Type 0 where
  pub pending : (given : Slots) → Contains after.kept.pending given → Contains before.kept.pending given ⊎ AreTouchedSlots h q p before given
  pub touched : List Slots
  pub once : NotesEach touched before.kept.pending after.kept.pending
  pub needs : (need : Need) → Contains before.kept.needs need → (Any (IsTouched h q p before) need.by → ⊥) → Contains after.kept.needs need
  pub left : (test : Need → Bool) × (after.kept.needs ≡ filter test before.kept.needs)
  pub added : List Note
  pub notes : after.notes ≡ noted before.notes added
  pub marks : (note : Note) → Contains added note → (note.position ≡ p) × IsMarkOf h q p before note.mark
  pub few : length added ≤ sum_by (changed_count q p h) before.kept.needs
  pub start : length before.notes.list + sum_by (changed_count q p h) before.kept.needs ≤ note_limit → after.notes.start ≡ before.notes.start

-- ---- filling, advancing and mending

-- the needs under slots, where there are any
abbrev pub needs_under : Join → Range → Table → Option Slots → List Need
needs_under j range table None = []
needs_under j range table (Some given) = tree j given range table

-- the needs of filling a range of a join's output over a table: the tree under the range's slots
abbrev pub fill_needs : Join → Range → Table → List Need
fill_needs j range table = needs_under j range table (range_slots j.output range)

-- the slots that are pending and meet a range
abbrev pub meeting : KeptRange → Range → List Slots
meeting s range = filter (meets_output s.join.output range) s.kept.pending

-- the ranges that are read to mend a range are bare at a position
abbrev pub AreBareUnder : KeptRange → History → ℕ → Range → Type 0
AreBareUnder s h q range = AllByRecursion (λ given. AreBare (joins_of (take q h)) (tree s.join given s.range (below (take q h) s.rank))) (meeting s range)

-- the most steps of mending a range over bare ranges: for each of the slots what is read under them
abbrev pub mend_steps : KeptRange → Table → Range → ℕ
mend_steps s table range = sum_by (λ given. reading_steps (tree s.join given s.range table) table) (meeting s range)

-- a kept range was filled over a table at a position: it keeps what filling makes, and its notes start there and are empty
pub record IsFilledAfresh (p : ℕ) (table : Table) (before after : KeptRange) : Type 0 where
  pub filled : IsFilled before.join before.range table after.kept
  pub notes : after.notes ≡ record { start = p; list = [] }

-- a kept range was filled over a table at a position, which takes so many needs at most: it stands there with nothing pending
pub record IsKeptAfresh (most p : ℕ) (table : Table) (before after : KeptRange) : Type 0 where
  pub at : StandsAt p after
  pub clear : after.kept.pending ≡ []
  pub afresh : IsFilledAfresh p table before after
  pub few : length (fill_needs before.join before.range table) ≤ most

-- nothing is kept of a range, whose filling takes more than so many needs over a table, and these are its rows
pub record IsLeftOut (most : ℕ) (table : Table) (before after : KeptRange) (found : KeptRows) : Type 0 where
  pub nothing : after.position ≡ None
  pub empty : after.kept ≡ record { rows = []; needs = []; pending = [] }
  pub rows : found.pairs ≡ pairs_within before.range (out before.join table)
  pub many : most < length (fill_needs before.join before.range table)

-- a range was filled over a table at a position, where so many needs may be kept: where it takes no more it is kept, and nothing is given; otherwise its rows are given, and nothing is kept
abbrev pub FillsUpTo : ℕ → ℕ → Table → KeptRange → KeptRange → Option KeptRows → Type 0
FillsUpTo most p table before after None = IsKeptAfresh most p table before after
FillsUpTo most p table before after (Some found) = IsLeftOut most table before after found

-- an advance to a later position counts what it asks or reads: one step at least for each need, or, where it fills the range afresh, those of what that reads
abbrev pub CountsAdvance : ℕ → Table → KeptRange → KeptRange → ℕ → ℕ → Type 0
CountsAdvance p table before after old new =
    (old + length before.kept.needs ≤ new) ⊎ (IsFilledAfresh p table before after × (old + reading_steps (fill_needs before.join before.range table) table ≤ new))

-- the needs under each of some slots
abbrev pub needs_under_each : Join → Range → Table → List Slots → List Need
needs_under_each j range table given = flat_map (λ s. tree j s range table) given

-- ---- more needs than may be kept

-- filling a kept range at a position takes more needs than are allowed
abbrev pub TakesTooMany : Option ℕ → History → ℕ → KeptRange → Type 0
TakesTooMany most h p s = Exceeds most (length (fill_needs s.join s.range (below (take p h) s.rank)))

-- the needs of a kept range, with those over a table under its pending slots that meet a range, are more than are allowed
abbrev pub MendsTooMany : Option ℕ → Table → Range → KeptRange → Type 0
MendsTooMany most table range s = Exceeds most (length s.kept.needs + length (needs_under_each s.join s.range table (meeting s range)))

-- a kept range has no more needs than are allowed, where it had no more before
abbrev pub StaysWithin : Option ℕ → KeptRange → KeptRange → Type 0
StaysWithin most old new = Allows most (length old.kept.needs) → Allows most (length new.kept.needs)

-- ---- mending

-- the notes of slots that are mended at a position
abbrev pub mend_notes : ℕ → List Slots → List Note
mend_notes q given = map (λ s. record { position = q; mark = slots s }) given
