-- What the status of `replay` says.
use Rattle.std.specs.Prelude.{◌≡◌, ℕ, [], List, if◌then◌else◌, is_err, Option}
use Rattle.semantics.specs.Texts.{Text}
use Rattle.core_events.specs.Scripts.{script_events, replay_text}
use Rattle.pq_io.specs.Streams.{Took, TookProperPrefix}
use Rattle.pq_io.specs.Shelf.{File}
use Rattle.pequod_commands.specs.Statuses.{IsTaken}

-- how `replay` ends: the whole text about the bytes of a script was written, or a part of it that is not the whole; the shelf gave no file; or no memory was found
pub data Replaying : Type 0 where
  written : Text → Replaying
  cut : Text → Replaying
  no_file : Replaying
  no_memory : Replaying

-- 7 where a line of the script is refused, otherwise 0
abbrev pub status_of_script : Text → ℕ
status_of_script bytes = if is_err (script_events bytes) then 7 else 0

-- what each end says of the status and of what the sink took
abbrev pub Replayed : Replaying → ℕ → Option (List File) → Text → Option Text → Option Text → Type 0
Replayed (written bytes) status held name taken taken_now = (status ≡ status_of_script bytes) × IsTaken held name bytes × Took taken taken_now (replay_text bytes)
Replayed (cut bytes) status held name taken taken_now = (status ≡ 5) × IsTaken held name bytes × TookProperPrefix taken taken_now (replay_text bytes)
Replayed no_file status held name taken taken_now = (status ≡ 9) × Took taken taken_now []
Replayed no_memory status held name taken taken_now = (status ≡ 6) × Took taken taken_now []

-- `replay` of a named file ended one of these ways; the text does not depend on how much is kept
pub record ReplaysTo (status : ℕ) (held : Option (List File)) (name : Text) (taken taken_now : Option Text) : Type 0 where
  pub ending : Replaying
  pub replayed : Replayed ending status held name taken taken_now
