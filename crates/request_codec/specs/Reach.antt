-- What is told of a position that lies out of reach.
use Rattle.std.specs.Prelude.{◌≡◌, ℕ, length, Option, Some, None}
use Rattle.semantics.specs.Histories.{History}
use Rattle.protocol.specs.Requests.{Earlier}
use Rattle.protocol.specs.Earlier.{asked_position, earlier_reply}
use Rattle.protocol.specs.Told.{IsWithinReach}
use Rattle.request_codec.specs.Plain.{plain_reply}
use Rattle.request_codec.specs.declared.reply.Reply.{Reply}

-- a position lies within reach of so many entries, or a question about it is told this reply
abbrev pub TellsReach : ℕ → ℕ → Option Reply → Type 0
TellsReach at position None = IsWithinReach position at
TellsReach at position (Some reply) = (e : Earlier) (h : History) → asked_position e ≡ at → length h ≡ position → plain_reply reply ≡ earlier_reply e h
