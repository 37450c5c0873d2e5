use Rattle.std.proofs.Common.{refl}
use Rattle.core_events.proofs.Computes.{definitions_on_literals}
use Rattle.core_events.proofs.worked.refused_write.Goals as goal

pub returns : goal.returns
unfolding definitions_on_literals
returns c = refl
