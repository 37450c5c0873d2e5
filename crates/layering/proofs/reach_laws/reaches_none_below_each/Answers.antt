use Rattle.layering.proofs.ReachLemmas.{reaches_none_below_each}
use Rattle.layering.proofs.reach_laws.reaches_none_below_each.Goals as goal

pub returns : goal.returns
returns c = reaches_none_below_each
