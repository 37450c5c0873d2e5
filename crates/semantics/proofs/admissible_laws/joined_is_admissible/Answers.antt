use Rattle.semantics.proofs.AdmissibleSets.{joined_is_admissible_lem}
use Rattle.semantics.proofs.admissible_laws.joined_is_admissible.Goals as goal

pub returns : goal.returns
returns c = joined_is_admissible_lem
