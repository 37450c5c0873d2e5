use Rattle.semantics.proofs.AdmissibleSets.{entered_is_admissible_lem}
use Rattle.semantics.proofs.admissible_laws.entered_is_admissible.Goals as goal

pub returns : goal.returns
returns c = entered_is_admissible_lem
