use Rattle.core_events.proofs.PlainLemmas.{world_in_parts}
use Rattle.core_events.proofs.plain_laws.world_in_parts.Goals as goal

pub returns : goal.returns
returns c = world_in_parts
