use Rattle.std.proofs.Common.{rules}
use Rattle.core_events.specs.Printed.{nothing_text}
use Rattle.event_script.proofs.answers.nothing_text.Goals as goal

pub returns : goal.returns
unfolding nothing_text
returns c = search rules
