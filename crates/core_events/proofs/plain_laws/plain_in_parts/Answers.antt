use Rattle.core_events.proofs.PlainLemmas.{plain_in_parts}
use Rattle.core_events.proofs.plain_laws.plain_in_parts.Goals as goal

pub returns : goal.returns
returns c = plain_in_parts
