use Rattle.layering.proofs.SameLemmas.{same_where_bare}
use Rattle.layering.proofs.same_laws.same_where_bare.Goals as goal

pub returns : goal.returns
returns c = same_where_bare
