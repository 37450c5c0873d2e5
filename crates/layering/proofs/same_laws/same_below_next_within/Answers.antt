use Rattle.layering.proofs.SameLemmas.{same_below_next_within}
use Rattle.layering.proofs.same_laws.same_below_next_within.Goals as goal

pub returns : goal.returns
returns c = same_below_next_within
