-- What one client alone is answered, from an empty history on: one fold over its lines.
use Rattle.std.specs.Prelude.{ℕ, zero, suc, ◌+◌, ◌&&◌, List, [], ◌∷◌, ◌++◌, length, slice_get, flat_map, Bool, true, false, not, if◌then◌else◌, Option, Some, None, Result, Ok, Err}
use Rattle.std.specs.Option.{option_map_or}
use Rattle.semantics.specs.Texts.{Text, same}
use Rattle.semantics.specs.Histories.{Write, History}
use Rattle.semantics.specs.Verdicts.{Cause, verdict}
use Rattle.semantics.specs.Answers.{answer}
use Rattle.protocol.specs.Lines.{Bytes, Cut, lines_of, whole_lines}
use Rattle.protocol.specs.Requests.{Request, write, read, earlier, quit, LineFault, request_of}
use Rattle.protocol.specs.Earlier.{earlier_reply}
use Rattle.protocol.specs.Replies.{Reply, done, answered, refused, unread, long, memory, bye, reply_text}

-- a reading says what a line asks for after a history, or why it asks for nothing
abbrev pub Reading : Type 0
Reading = History → Bytes → Result Request LineFault

-- a reply, the history after it, and whether it ends the session
pub record Step : Type 0 where
  pub reply : Reply
  pub history : History
  pub over : Bool

-- a write enters where there is no cause against it
abbrev pub write_step : Write → History → Option Cause → Step
write_step w h None = record { reply = done (length h + 1); history = h ++ record { client = 0; write = w } ∷ []; over = false }
write_step w h (Some cause) = record { reply = refused (length h) cause; history = h; over = false }

-- the step of what a line was read as
abbrev pub step_of : Result Request LineFault → History → Step
step_of (Err fault) h = record { reply = unread fault; history = h; over = false }
step_of (Ok (write w)) h = write_step w h (verdict w h)
step_of (Ok (read r)) h = record { reply = answered (answer r h); history = h; over = false }
step_of (Ok (earlier e)) h = record { reply = earlier_reply e h; history = h; over = false }
step_of (Ok quit) h = record { reply = bye; history = h; over = true }

-- a line for which no memory was found changes nothing
abbrev pub memory_step : History → Step
memory_step h = record { reply = memory; history = h; over = false }

-- the step of a line with a number, where the lines that are starved find no memory
abbrev pub line_step : Reading → (ℕ → Bool) → ℕ → History → Bytes → Step
line_step reading starved number h line = if starved number then memory_step h else step_of (reading h line) h

-- the replies to lines, the history after them, and whether the session ended
pub record Outcome : Type 0 where
  pub replies : List Reply
  pub history : History
  pub over : Bool

abbrev pub onto_replies : Reply → Outcome → Outcome
onto_replies reply outcome = record { replies = reply ∷ outcome.replies; history = outcome.history; over = outcome.over }

-- after a step the lines go on, unless it ended the session
abbrev pub after_step : Reply → History → Bool → (History → Outcome) → Outcome
after_step reply h true more = record { replies = reply ∷ []; history = h; over = true }
after_step reply h false more = onto_replies reply (more h)

-- the fold over lines, which are counted from a number
abbrev pub outcome_from : Reading → (ℕ → Bool) → ℕ → History → List Bytes → Outcome
outcome_from reading starved number h [] = record { replies = []; history = h; over = false }
outcome_from reading starved number h (line ∷ lines) =
    after_step (line_step reading starved number h line).reply (line_step reading starved number h line).history (line_step reading starved number h line).over
    (λ after. outcome_from reading starved (number + 1) after lines)

-- the outcome of lines from the empty history; lines are counted from 1
unfoldable pub outcome_of : Reading → (ℕ → Bool) → List Bytes → Outcome
outcome_of reading starved lines = outcome_from reading starved 1 [] lines

abbrev pub reply_texts : List Reply → Text
reply_texts = flat_map reply_text

-- the text of `long`, where the mark ends the lines and no `quit` came before
abbrev pub long_text : Bool → Outcome → Text
long_text marked outcome = if marked && not outcome.over then reply_text long else []

abbrev pub transcript_of_cut : Reading → (ℕ → Bool) → Cut → Text
transcript_of_cut reading starved cut =
    reply_texts (outcome_of reading starved cut.lines).replies ++ long_text cut.long (outcome_of reading starved cut.lines)

-- `Transcript` under a reading: the texts of the replies to the lines of the bytes, where the numbered lines find no memory
unfoldable pub transcript_by : Reading → Bytes → Bool → (ℕ → Bool) → Text
transcript_by reading bytes ended starved = transcript_of_cut reading starved (lines_of bytes ended)

-- `Transcript`: every form of a request is read
abbrev pub transcript : Bytes → Bool → (ℕ → Bool) → Text
transcript = transcript_by (λ h line. request_of line)

-- ---- which lines found no memory, by what was written

-- whether a line with its byte 10 is the text of `memory`
abbrev pub is_memory_line : Bytes → Bool
is_memory_line line = same (line ++ 10 ∷ []) (reply_text memory)

-- whether the whole line with a number, counted from 1, of a written text is the text of `memory`
unfoldable pub memory_lines : Bytes → ℕ → Bool
memory_lines written zero = false
memory_lines written (suc i) = option_map_or is_memory_line (slice_get (whole_lines written) i) false
