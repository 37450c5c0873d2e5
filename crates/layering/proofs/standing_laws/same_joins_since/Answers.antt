use Rattle.layering.proofs.StandingLemmas.{same_joins_since}
use Rattle.layering.proofs.standing_laws.same_joins_since.Goals as goal

pub returns : goal.returns
returns c = same_joins_since
