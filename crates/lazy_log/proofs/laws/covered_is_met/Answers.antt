use Rattle.lazy_log.proofs.PendingLemmas.{covered_is_met}
use Rattle.lazy_log.proofs.laws.covered_is_met.Goals as goal

pub returns : goal.returns
returns c = covered_is_met
