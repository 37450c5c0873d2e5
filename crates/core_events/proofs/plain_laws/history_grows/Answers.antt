use Rattle.core_events.proofs.WorldLemmas.{history_grows}
use Rattle.core_events.proofs.plain_laws.history_grows.Goals as goal

pub returns : goal.returns
returns c = history_grows
