use Rattle.layering.proofs.ReachLemmas.{reached_stand}
use Rattle.layering.proofs.reach_laws.reached_stand.Goals as goal

pub returns : goal.returns
returns c = reached_stand
