use Rattle.layering.proofs.StandingLemmas.{position_names_join}
use Rattle.layering.proofs.standing_laws.position_names_join.Goals as goal

pub returns : goal.returns
returns c = position_names_join
