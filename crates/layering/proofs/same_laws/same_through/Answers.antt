use Rattle.layering.proofs.SameLemmas.{same_through}
use Rattle.layering.proofs.same_laws.same_through.Goals as goal

pub returns : goal.returns
returns c = same_through
