use Rattle.layering.proofs.StandingLemmas.{rank_stays}
use Rattle.layering.proofs.standing_laws.rank_stays.Goals as goal

pub returns : goal.returns
returns c = rank_stays
