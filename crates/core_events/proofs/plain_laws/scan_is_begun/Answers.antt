use Rattle.core_events.proofs.PlainLemmas.{scan_is_begun}
use Rattle.core_events.proofs.plain_laws.scan_is_begun.Goals as goal

pub returns : goal.returns
returns c = scan_is_begun
