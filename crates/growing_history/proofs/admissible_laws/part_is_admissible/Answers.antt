use Rattle.growing_history.proofs.AdmissibleSets.{part_is_admissible_lem}
use Rattle.growing_history.proofs.admissible_laws.part_is_admissible.Goals as goal

pub returns : goal.returns
returns c = part_is_admissible_lem
