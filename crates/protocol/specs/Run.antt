-- What `run` does with one client alone, at each end.
use Rattle.std.specs.Prelude.{◌≡◌, ℕ, ◌+◌, ◌^◌, ◌≤◌, ◌⊎◌, ◌||◌, ◌==◌, [], ◌∷◌, ◌++◌, length, Bool, true, false, Option, Some, None}
use Rattle.semantics.specs.Texts.{Text}
use Rattle.protocol.specs.Lines.{Bytes, lines_of, whole_lines}
use Rattle.protocol.specs.Requests.{request_of}
use Rattle.protocol.specs.Replies.{long, reply_text}
use Rattle.protocol.specs.Transcript.{transcript, memory_lines, outcome_of}
use Rattle.protocol.specs.Session.{Ending, closed, quit_line, long_line, read_fault, write_fault, spent, no_memory, NothingLeft}

-- the written bytes are the transcript of the bytes, where the lines that were answered `memory` find none
abbrev pub IsTranscript : Bytes → Bool → Bytes → Type 0
IsTranscript bytes ended written = written ≡ transcript bytes ended (memory_lines written)

-- the text begins with the first one
abbrev pub BeginsText : Bytes → Bytes → Type 0
BeginsText front text = (rest : Bytes) × (text ≡ front ++ rest)

-- the text ends with the last one
abbrev pub EndsText : Bytes → Bytes → Type 0
EndsText last text = (front : Bytes) × (text ≡ front ++ last)

-- one line more finds no memory: the one whose reply was not written whole
abbrev pub memory_lines_and_next : Bytes → ℕ → Bool
memory_lines_and_next written number = memory_lines written number || (number == length (whole_lines written) + 1)

-- the written bytes begin the transcript, where the reply that was cut may be `memory`
abbrev pub BeginsTranscript : Bytes → Bool → Bytes → Type 0
BeginsTranscript bytes ended written =
    BeginsText written (transcript bytes ended (memory_lines written))
    ⊎ BeginsText written (transcript bytes ended (memory_lines_and_next written))

-- the fold over the lines that have ended came to `quit`
abbrev pub QuitsBefore : Text → (ℕ → Bool) → Type 0
QuitsBefore bytes starved = (outcome_of (λ h line. request_of line) starved (lines_of bytes false).lines).over ≡ true

-- whether nothing is left in a source, as far as it tells
abbrev pub is_drained : Option Text → Bool
is_drained None = true
is_drained (Some []) = true
is_drained (Some (b ∷ bs)) = false

-- the bytes that the source gave in the call, those that the sink took, and what the source has left, where it is told
pub record Streams : Type 0 where
  pub bytes : Text
  pub written : Text
  pub left : Option Text

-- how `run` leaves its streams at each end
abbrev pub Ran : Ending → Streams → Type 0
Ran closed s = IsTranscript s.bytes true s.written × NothingLeft s.left
Ran quit_line s = IsTranscript s.bytes true s.written × (NothingLeft s.left ⊎ QuitsBefore s.bytes (memory_lines s.written))
Ran long_line s = IsTranscript s.bytes false s.written × ((lines_of s.bytes false).long ≡ true) × EndsText (reply_text long) s.written
Ran read_fault s = IsTranscript s.bytes false s.written
Ran write_fault s = BeginsTranscript s.bytes (is_drained s.left) s.written
Ran spent s = IsTranscript s.bytes false s.written × (2 ^ 40 ≤ length s.bytes)
Ran no_memory s = (s.bytes ≡ []) × (s.written ≡ [])
