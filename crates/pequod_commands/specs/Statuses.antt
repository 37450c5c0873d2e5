-- What the status of a command says.
use Rattle.std.specs.Prelude.{◌≡◌, ℕ, [], if◌then◌else◌, is_err, List, Option, Some, IfSome}
use Rattle.semantics.specs.Texts.{Text}
use Rattle.semantics.specs.Histories.{History}
use Rattle.protocol.specs.JoinsFile.{file_history, check_text}
use Rattle.protocol.specs.Session as session
use Rattle.protocol.specs.Session.{Served}
use Rattle.protocol.specs.Run.{Ran}
use Rattle.pq_io.specs.Streams.{Gave, Took, TookProperPrefix}
use Rattle.pq_io.specs.Shelf.{File, bytes_under}

-- the status of each end of `run`
abbrev pub status_of : session.Ending → ℕ
status_of session.closed = 0
status_of session.quit_line = 0
status_of session.long_line = 3
status_of session.read_fault = 4
status_of session.write_fault = 5
status_of session.spent = 10
status_of session.no_memory = 6

-- `run` ended one way, which the status names: these bytes were given and these were taken, the client that is alone was served so from the empty history, and what was written stands to the transcript as `Ran` says at that end
pub record RunsTo (status : ℕ) (left left_now taken taken_now : Option Text) : Type 0 where
  pub ending : session.Ending
  pub bytes : Text
  pub written : Text
  pub status_is : status ≡ status_of ending
  pub gave : Gave left left_now bytes
  pub took : Took taken taken_now written
  pub view : History
  pub served : Served ending (record { before = []; after = view; client = 0; bytes = bytes; written = written; left = left_now })
  pub ran : Ran ending (record { bytes = bytes; written = written; left = left_now })

-- the bytes are those of the first file of that name, where the shelf tells what it holds
abbrev pub IsTaken : Option (List File) → Text → Text → Type 0
IsTaken held name bytes = IfSome held (λ files. bytes_under files name ≡ Some bytes)

-- how `check` ends
pub data Checking : Type 0 where
  written : Text → Checking
  cut : Text → Checking
  no_file : Checking
  no_memory : Checking

-- 7 where a line of the file is refused, otherwise 0
abbrev pub status_of_file : Text → ℕ
status_of_file bytes = if is_err (file_history bytes) then 7 else 0

-- what each end says of the status and of what the sink took
abbrev pub Checked : Checking → ℕ → Option (List File) → Text → Option Text → Option Text → Type 0
Checked (written bytes) status held name taken taken_now = (status ≡ status_of_file bytes) × IsTaken held name bytes × Took taken taken_now (check_text bytes)
Checked (cut bytes) status held name taken taken_now = (status ≡ 5) × IsTaken held name bytes × TookProperPrefix taken taken_now (check_text bytes)
Checked no_file status held name taken taken_now = (status ≡ 9) × Took taken taken_now []
Checked no_memory status held name taken taken_now = (status ≡ 6) × Took taken taken_now []

-- `check` of a named file ended one of these ways
pub record ChecksTo (status : ℕ) (held : Option (List File)) (name : Text) (taken taken_now : Option Text) : Type 0 where
  pub ending : Checking
  pub checked : Checked ending status held name taken taken_now
