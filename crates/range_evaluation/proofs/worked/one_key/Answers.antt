use Rattle.std.proofs.Common.{refl}
use Rattle.range_evaluation.proofs.Computes.{definitions_on_literals}
use Rattle.range_evaluation.proofs.worked.one_key.Goals as goal

pub returns : goal.returns
unfolding definitions_on_literals
returns c = refl
