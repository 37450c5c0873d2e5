use Rattle.layering.proofs.ReachLemmas.{of_rank_stand}
use Rattle.layering.proofs.reach_laws.of_rank_stand.Goals as goal

pub returns : goal.returns
returns c = of_rank_stand
