use Rattle.core_events.proofs.ScanLemmas.{scans_stand_within}
use Rattle.core_events.proofs.plain_laws.scans_stand_within.Goals as goal

pub returns : goal.returns
returns c = scans_stand_within
