use Rattle.std.proofs.Common.{◌≡◌}
use Rattle.semantics.specs.Texts.{bar}
use Rattle.semantics.specs.Patterns.{segments}
use Rattle.protocol.specs.JoinText.{read_segments}
use Rattle.key_pattern.specs.Plain.{plain_segments}
use Rattle.join_lang.proofs.TokenLemmas.{pieces_left, bytes_left}
use Rattle.join_lang.proofs.SegmentLemmas.{behind_segments}
use Rattle.join_lang.proofs.patterns.read_segments.Given as goal

abbrev pub invariant-loop-rest : goal.invariant-loop-rest
invariant-loop-rest l =
    read_segments l.fn.names (segments l.fn.token) ≡ behind_segments (plain_segments l.list.items) (read_segments l.names (pieces_left bar l.rest))

abbrev pub decreases-loop-rest : goal.decreases-loop-rest
decreases-loop-rest l = bytes_left l.rest
