use Rattle.layering.proofs.StandingLemmas.{joins_stay_since}
use Rattle.layering.proofs.standing_laws.joins_stay_since.Goals as goal

pub returns : goal.returns
returns c = joins_stay_since
