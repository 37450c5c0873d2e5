use Rattle.std.proofs.Common.{refl}
use Rattle.core_events.proofs.Computes.{definitions_on_literals}
use Rattle.core_events.proofs.worked.refused_lines.Goals as goal

pub returns : goal.returns
unfolding definitions_on_literals
returns c = (refl, refl, refl, refl, refl, refl, refl, refl)
