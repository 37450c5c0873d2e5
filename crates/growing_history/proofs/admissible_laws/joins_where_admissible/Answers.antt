use Rattle.growing_history.proofs.AdmissibleSets.{joins_where_admissible_lem}
use Rattle.growing_history.proofs.admissible_laws.joins_where_admissible.Goals as goal

pub returns : goal.returns
returns c = joins_where_admissible_lem
