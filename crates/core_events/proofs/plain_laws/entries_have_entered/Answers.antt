use Rattle.core_events.proofs.WorldLemmas.{entries_have_entered}
use Rattle.core_events.proofs.plain_laws.entries_have_entered.Goals as goal

pub returns : goal.returns
returns c = entries_have_entered
