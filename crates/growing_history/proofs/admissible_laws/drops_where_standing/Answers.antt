use Rattle.growing_history.proofs.AdmissibleSets.{drops_where_standing_lem}
use Rattle.growing_history.proofs.admissible_laws.drops_where_standing.Goals as goal

pub returns : goal.returns
returns c = drops_where_standing_lem
