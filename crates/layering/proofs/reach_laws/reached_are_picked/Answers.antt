use Rattle.layering.proofs.ReachLemmas.{reached_are_picked}
use Rattle.layering.proofs.reach_laws.reached_are_picked.Goals as goal

pub returns : goal.returns
returns c = reached_are_picked
