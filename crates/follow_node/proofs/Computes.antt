-- What an answer unfolds to compute the definitions on literals.
use Rattle.std.specs.Prelude.{⊤}
use Rattle.std.specs.Str.{is_utf8, chars}
use Rattle.std.specs.Fmt.{digits}
use Rattle.json.specs.Print.{escape_byte}
use Rattle.serde_json.proofs.OnLiterals.{serde_json_on_literals}
use Rattle.semantics.specs.Patterns.{no_slots}
use Rattle.semantics.specs.Outputs.{matches, canonical_integer, contributions, gathered, out}
use Rattle.semantics.specs.Graphs.{rank, least_cycle}
use Rattle.semantics.specs.States.{reading, below, state}
use Rattle.semantics.specs.Verdicts.{join_cause, verdict}
use Rattle.semantics.specs.Answers.{answer}
use Rattle.growing_history.specs.StateChanges.{changes}
use Rattle.protocol.specs.JoinText.{read_pattern, read_join, canonical_text}
use Rattle.protocol.specs.Lines.{lines_of}
use Rattle.protocol.specs.Requests.{request_of}
use Rattle.protocol.specs.Replies.{reply_text}
use Rattle.protocol.specs.Feeds.{longest, run}
use Rattle.protocol.specs.Earlier.{earlier_reply}
use Rattle.protocol.specs.Transcript.{outcome_of, transcript_by}
use Rattle.follow_node.specs.FedLines.{fed_line}
use Rattle.follow_node.specs.Fed.{fed_of}

unfoldable pub definitions_on_literals : ⊤
unfolding is_utf8 chars digits escape_byte serde_json_on_literals no_slots matches canonical_integer contributions gathered out rank least_cycle reading below state join_cause verdict answer changes read_pattern read_join canonical_text lines_of request_of reply_text longest run earlier_reply outcome_of transcript_by fed_line fed_of
definitions_on_literals = tt
