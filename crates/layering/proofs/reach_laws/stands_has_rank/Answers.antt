use Rattle.layering.proofs.ReachLemmas.{stands_has_rank}
use Rattle.layering.proofs.reach_laws.stands_has_rank.Goals as goal

pub returns : goal.returns
returns c = stands_has_rank
