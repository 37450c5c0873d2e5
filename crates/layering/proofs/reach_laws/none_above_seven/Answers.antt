use Rattle.layering.proofs.AloneLemmas.{none_above_seven}
use Rattle.layering.proofs.reach_laws.none_above_seven.Goals as goal

pub returns : goal.returns
returns c = none_above_seven
