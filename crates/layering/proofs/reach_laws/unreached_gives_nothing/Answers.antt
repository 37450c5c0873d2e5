use Rattle.layering.proofs.ReachLemmas.{unreached_gives_nothing}
use Rattle.layering.proofs.reach_laws.unreached_gives_nothing.Goals as goal

pub returns : goal.returns
returns c = unreached_gives_nothing
