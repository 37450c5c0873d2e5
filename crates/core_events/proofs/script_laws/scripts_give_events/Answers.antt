use Rattle.core_events.proofs.ScriptLemmas.{scripts_give_events}
use Rattle.core_events.proofs.script_laws.scripts_give_events.Goals as goal

pub returns : goal.returns
returns c = scripts_give_events
