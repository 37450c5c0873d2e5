-- What is held once a range is advanced.
use Rattle.std.specs.Prelude.{◌≡◌, ℕ, ◌≤◌, List, ◌++◌, length, filter, map, take}
use Rattle.semantics.specs.Texts.{Text}
use Rattle.semantics.specs.Patterns.{Slots}
use Rattle.kept_ranges.specs.Notes.{key, slots, Note, noted}
use Rattle.kept_ranges.specs.Rules.{Touch, Application, touches, is_left, applications, AddsTouched}
use Rattle.semantics.specs.Histories.{History, joins_of}
use Rattle.semantics.specs.States.{below}
use Rattle.growing_history.specs.Entered.{HasEntered, HasRank}
use Rattle.growing_history.specs.StateChanges.{Change}
use Rattle.join_eval.specs.Answers.{HaveValues, change_keys}
use Rattle.kept_ranges.specs.Sound.{IsSoundAt}
use Rattle.kept_ranges.specs.SoundLaws.{AreReportedBetween}
use Rattle.range_state.specs.Held.{FitsJoin, range_kept}
use Rattle.range_state.specs.Work.{NotesEach}
use Rattle.range_state.specs.declared.holding.Holding.{Holding}
use Rattle.range_state.specs.declared.subject.Subject.{Subject}

-- the notes of touched slots, made at a position
abbrev pub touch_notes : ℕ → List Touch → List Note
touch_notes p touched = map (λ t. record { position = p; mark = slots t.slots }) touched

-- the notes of output keys that pairs are applied to, made at a position
abbrev pub key_notes : ℕ → List Application → List Note
key_notes p applying = map (λ a. record { position = p; mark = key a.output }) applying

-- the slots of touches
abbrev pub slots_touched : List Touch → List Slots
slots_touched touched = map (λ touch. touch.slots) touched

-- what the reported keys touch through the needs that are held
abbrev pub touched_by : Subject → List Text → Holding → List Touch
touched_by s reported held = touches s.join reported held.rows.needs

-- to which output keys the reported keys are applied through the needs that are held afterwards
abbrev pub applied_by : Subject → List Text → Holding → List Application
applied_by s reported after = applications s.join s.range after.pending.noted reported after.rows.needs

-- what is held after an advance to a position, where these keys are reported: touched slots are pending too, each noted once, no need is left that came by a touched key, and what was touched and applied is noted
pub record IsAdvancedTo (s : Subject) (p : ℕ) (reported : List Text) (before after : Holding) : Type 0 where
  pub fits : FitsJoin s.join after
  pub position : after.position ≡ p
  pub pending : AddsTouched (touched_by s reported before) before.pending.noted after.pending.noted
  pub once : NotesEach (slots_touched (touched_by s reported before)) before.pending.noted after.pending.noted
  pub needs : after.rows.needs ≡ filter (is_left (touched_by s reported before)) before.rows.needs
  pub notes : after.notes ≡ noted before.notes (touch_notes p (touched_by s reported before) ++ key_notes p (applied_by s reported after))

-- what is held can be advanced to a position of a history by reported changes: it is right where it stands, its join stands with its rank at the later position, at each key of the needs' ranges that is not reported the same stands between, and each change has what stands at its key at the later position
pub record CanAdvance (s : Subject) (held : Holding) (p : ℕ) (reported : List Change) (h : History) : Type 0 where
  pub within : p ≤ length h
  pub entered : HasEntered h
  pub stands : HasRank (joins_of (take p h)) s.join s.rank
  pub sound : IsSoundAt (range_kept s held) h held.position
  pub told : AreReportedBetween h held.position p s.rank held.rows.needs (change_keys reported)
  pub values : HaveValues (below (take p h) s.rank) reported
