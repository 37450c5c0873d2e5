-- Laws on runs: transcripts in two parts, and what a client is told in two parts.
use Rattle.std.specs.Prelude.{◌≡◌, ℕ, ◌+◌, List, ◌++◌, length, Bool, true, false}
use Rattle.protocol.specs.Lines.{Bytes}
use Rattle.semantics.specs.Histories.{History}
use Rattle.protocol.specs.Requests.{Request}
use Rattle.protocol.specs.Replies.{Reply}
use Rattle.protocol.specs.Told.{Told}
use Rattle.protocol.specs.Transcript.{Reading, Outcome, outcome_from}

-- the replies of a first part and those after it, unless the first part ended the session
abbrev pub both_parts : List Reply → History → Bool → (History → Outcome) → Outcome
both_parts replies h true more = record { replies = replies; history = h; over = true }
both_parts replies h false more = record { replies = replies ++ (more h).replies; history = (more h).history; over = (more h).over }

-- lines in two parts: the second goes on from the history that the first leaves, with its lines counted on
abbrev pub OutcomeOfParts : Type 0
OutcomeOfParts = (reading : Reading) (starved : ℕ → Bool) (number : ℕ) (h : History) (first second : List Bytes) →
    outcome_from reading starved number h (first ++ second)
    ≡ (let part = outcome_from reading starved number h first in
    both_parts part.replies part.history part.over (λ after. outcome_from reading starved (number + length first) after second))

-- what is told from one view to a second, and from that to a third, is told from the first to the third
abbrev pub ToldComposes : Type 0
ToldComposes = (before between after : History) (client : ℕ) (requests more : List Request) (replies others : List Reply) →
    Told before between client requests replies → Told between after client more others →
    Told before after client (requests ++ more) (replies ++ others)
