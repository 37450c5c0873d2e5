use Rattle.core_events.proofs.PlainLemmas.{world_after_one_more}
use Rattle.core_events.proofs.plain_laws.world_after_one_more.Goals as goal

pub returns : goal.returns
returns c = world_after_one_more
