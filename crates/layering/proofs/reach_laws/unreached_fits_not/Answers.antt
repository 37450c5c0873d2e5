use Rattle.layering.proofs.ReachLemmas.{unreached_fits_not}
use Rattle.layering.proofs.reach_laws.unreached_fits_not.Goals as goal

pub returns : goal.returns
returns c = unreached_fits_not
