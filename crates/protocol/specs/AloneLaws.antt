-- The law on one client alone.
use Rattle.std.specs.Prelude.{◌≡◌, []}
use Rattle.protocol.specs.Own.{AreOwn}
use Rattle.protocol.specs.Session.{Ending, Link, Served}
use Rattle.protocol.specs.Run.{Ran}

-- where a link was served from the empty history, and every entry is the client's own, what was written is the transcript, and after a write fault a beginning of one
abbrev pub AloneIsTranscript : Type 0
AloneIsTranscript = (ending : Ending) (link : Link) → link.before ≡ [] → link.client ≡ 0 →
    AreOwn link.after → Served ending link →
    Ran ending (record { bytes = link.bytes; written = link.written; left = link.left })
