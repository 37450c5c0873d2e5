use Rattle.core_events.proofs.WorldLemmas.{looks_decide}
use Rattle.core_events.proofs.plain_laws.looks_decide.Goals as goal

pub returns : goal.returns
returns c = looks_decide
