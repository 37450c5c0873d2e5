-- What an answer unfolds to compute the definitions on literals.
use Rattle.std.specs.Prelude.{⊤}
use Rattle.std.specs.Str.{is_utf8, chars}
use Rattle.std.specs.Fmt.{digits}
use Rattle.json.specs.Print.{escape_byte}
use Rattle.serde_json.proofs.OnLiterals.{serde_json_on_literals}
use Rattle.semantics.specs.Patterns.{no_slots}
use Rattle.semantics.specs.Outputs.{matches, canonical_integer, contributions, gathered, out}
use Rattle.semantics.specs.Graphs.{rank, least_cycle}
use Rattle.semantics.specs.States.{reading, below, state}
use Rattle.semantics.specs.Verdicts.{join_cause, verdict}
use Rattle.protocol.specs.JoinText.{read_pattern, read_join}
use Rattle.protocol.specs.Replies.{reply_text}
use Rattle.core_events.specs.Plain.{plain}
use Rattle.core_events.specs.Printed.{nothing_text}
use Rattle.core_events.specs.Scripts.{event_of, script_events, replay_text}

unfoldable pub definitions_on_literals : ⊤
unfolding is_utf8 chars digits escape_byte serde_json_on_literals no_slots matches canonical_integer contributions gathered out rank least_cycle reading below state join_cause verdict read_pattern read_join reply_text plain nothing_text event_of script_events replay_text
definitions_on_literals = tt
