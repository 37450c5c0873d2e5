use Rattle.layering.proofs.AloneLemmas.{none_reached_in_others}
use Rattle.layering.proofs.reach_laws.none_reached_in_others.Goals as goal

pub returns : goal.returns
returns c = none_reached_in_others
