use Rattle.core_events.proofs.ScanLemmas.{scans_were_begun}
use Rattle.core_events.proofs.plain_laws.scans_were_begun.Goals as goal

pub returns : goal.returns
returns c = scans_were_begun
