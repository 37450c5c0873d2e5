use Rattle.growing_history.proofs.AdmissibleSets.{declares_where_admissible_lem}
use Rattle.growing_history.proofs.admissible_laws.declares_where_admissible.Goals as goal

pub returns : goal.returns
returns c = declares_where_admissible_lem
