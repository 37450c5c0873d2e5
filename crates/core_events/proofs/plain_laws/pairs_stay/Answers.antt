use Rattle.core_events.proofs.ScanLemmas.{pairs_stay}
use Rattle.core_events.proofs.plain_laws.pairs_stay.Goals as goal

pub returns : goal.returns
returns c = pairs_stay
