use Rattle.std.proofs.Common.{refl}
use Rattle.key_ranges.proofs.Computes.{definitions_on_literals}
use Rattle.key_ranges.proofs.worked.no_time.Goals as goal

pub returns : goal.returns
unfolding definitions_on_literals
returns c = refl
