use Rattle.layering.proofs.ReachLemmas.{bare_reaches_none}
use Rattle.layering.proofs.reach_laws.bare_reaches_none.Goals as goal

pub returns : goal.returns
returns c = bare_reaches_none
