-- Runs of one client, as lines and their replies.
use Rattle.std.specs.Prelude.{◌≡◌, List, [], ◌∷◌, ◌++◌, flat_map, true, false, codes}
use Rattle.semantics.specs.Texts.{Text}
use Rattle.protocol.specs.Transcript.{transcript}

-- lines with byte 10 at the end of each
abbrev pub sent : List Text → Text
sent = flat_map (λ line. line ++ 10 ∷ [])

-- the transcript of the lines, where memory is found for each, is these replies
abbrev pub Replies : List Text → List Text → Type 0
Replies lines replies = transcript (sent lines) true (λ _. false) ≡ sent replies

-- a timeline: the posts of those whom a user follows
abbrev pub timeline : Text
timeline = codes "[\"join\",\"t|<user>|<time>|<poster> = check s|<user>|<poster> copy p|<poster>|<time>\"]"
