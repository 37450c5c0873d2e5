-- Runs by how the input comes and ends.
use Rattle.std.specs.Prelude.{◌≡◌, ◌<◌, ◌==◌, [], ◌∷◌, ◌++◌, length, true, false, codes}
use Rattle.std.specs.List.{list_any}
use Rattle.semantics.specs.Texts.{Text}
use Rattle.protocol.specs.Lines.{Bytes, line_limit}
use Rattle.protocol.specs.Transcript.{transcript}
use Rattle.protocol.specs.Run.{IsTranscript}
use Rattle.worked_runs.specs.Runs.{sent, Replies}

-- a put
abbrev pub put_line : Text
put_line = codes "[\"put\",\"k|a\",\"1\"]"

-- a line for which no memory is found enters nothing, and ends nothing where it is `quit`
abbrev pub Starved : Type 0
Starved = IsTranscript
    (sent
    (codes "[\"put\",\"k|a\",\"1\"]"
    ∷ codes "[\"put\",\"k|a\",\"2\"]"
    ∷ codes "[\"get\",\"k|a\"]"
    ∷ codes "[\"quit\"]"
    ∷ codes "[\"remove\",\"k|a\"]"
    ∷ codes "[\"get\",\"k|a\"]"
    ∷ []))
    true
    (sent
    (codes "[\"ok\",1]"
    ∷ codes "[\"error\",\"memory\"]"
    ∷ codes "[\"value\",1,\"1\"]"
    ∷ codes "[\"error\",\"memory\"]"
    ∷ codes "[\"ok\",2]"
    ∷ codes "[\"none\",2]"
    ∷ []))

-- `quit` is answered, and nothing after it
abbrev pub Quits : Type 0
Quits = Replies
    (codes "[\"put\",\"k|a\",\"1\"]"
    ∷ codes " [\"quit\"] "
    ∷ codes "[\"get\",\"k|a\"]"
    ∷ codes "[\"quit\"]"
    ∷ [])
    (codes "[\"ok\",1]"
    ∷ codes "[\"bye\"]"
    ∷ [])

-- what follows the last byte 10 is a line where the input has ended, and none where it has not
abbrev pub Unended : Type 0
Unended =
    (transcript (sent (put_line ∷ []) ++ codes "[\"get\",\"k|a\"]") true (λ _. false) ≡ sent (codes "[\"ok\",1]" ∷ codes "[\"value\",1,\"1\"]" ∷ []))
    × (transcript (sent (put_line ∷ []) ++ codes "[\"get\",\"k|a\"]") false (λ _. false) ≡ sent (codes "[\"ok\",1]" ∷ []))

-- a line of more than 1,048,576 bytes is answered `long`, whatever its bytes are, and what follows it is not answered
abbrev pub TooLong : Type 0
TooLong = (line rest : Bytes) → list_any (λ b. b == 10) line ≡ false → line_limit < length line →
    transcript (sent (put_line ∷ []) ++ (line ++ 10 ∷ rest)) true (λ _. false) ≡ sent (codes "[\"ok\",1]" ∷ codes "[\"error\",\"long\"]" ∷ [])
