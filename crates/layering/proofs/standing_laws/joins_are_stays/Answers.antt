use Rattle.layering.proofs.StandingLemmas.{joins_are_stays}
use Rattle.layering.proofs.standing_laws.joins_are_stays.Goals as goal

pub returns : goal.returns
returns c = joins_are_stays
