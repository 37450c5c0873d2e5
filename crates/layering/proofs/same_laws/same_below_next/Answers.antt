use Rattle.layering.proofs.SameLemmas.{same_below_next}
use Rattle.layering.proofs.same_laws.same_below_next.Goals as goal

pub returns : goal.returns
returns c = same_below_next
