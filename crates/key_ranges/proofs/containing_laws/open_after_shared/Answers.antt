use Rattle.key_ranges.proofs.OpenLemmas.{open_after_shared}
use Rattle.key_ranges.proofs.containing_laws.open_after_shared.Goals as goal

pub returns : goal.returns
returns c = open_after_shared
