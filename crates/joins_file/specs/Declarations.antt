-- What lines and files of joins declare.
use Rattle.std.specs.Prelude.{◌≡◌, ℕ, if◌then◌else◌, Option, Some, None, Result, Ok, Err}
use Rattle.std.specs.Result.{result_ok}
use Rattle.std.specs.Borrow.{Bor}
use Rattle.std.specs.Str.{is_utf8}
use Rattle.semantics.specs.Texts.{Text}
use Rattle.semantics.specs.Joins.{Join}
use Rattle.semantics.specs.Histories.{History}
use Rattle.protocol.specs.JoinText.{read_join}
use Rattle.protocol.specs.JoinsFile.{file_history}
use Rattle.join_set.specs.Summaries.{Summary, StandsFor}
use Rattle.joins_file.specs.declared.declaring.RefusedLine.{RefusedLine}
use Rattle.joins_file.specs.declared.declaring.Declared.{Declared}
use Rattle.joins_file.specs.declared.declaring.Declared.TheVariants.{Joins, Refused}

-- the join that a line is the text of
abbrev pub join_of_line : Text → Option Join
join_of_line line = if is_utf8 line then result_ok (read_join line) else None

-- the number and the name of a refused line
abbrev pub plain_refusal : RefusedLine → ℕ × Text
plain_refusal line = (line.number, line.name.now)

-- the summary is of the history that there is
abbrev pub Keeps : Result History Text → Summary → Type 0
Keeps given summary = (h : History) × (given ≡ Ok h) × StandsFor summary h

-- what comes after a line: its name where it is refused, and otherwise the summary of the history with it
abbrev pub ComesAfter : Result History Text → Option (Bor Text) → Summary → Type 0
ComesAfter given None summary = Keeps given summary
ComesAfter given (Some name) summary = given ≡ Err name.now

-- what a file declares: the joins of its history, or its first refused line
abbrev pub IsDeclaredBy : Text → Declared → Type 0
IsDeclaredBy bytes (Joins standing) = (h : History) × (file_history bytes ≡ Ok h) × StandsFor standing h
IsDeclaredBy bytes (Refused line) = file_history bytes ≡ Err (plain_refusal line)
