use Rattle.key_ranges.proofs.NarrowedLemmas.{containing_holds}
use Rattle.key_ranges.proofs.containing_laws.containing_holds.Goals as goal

pub returns : goal.returns
returns c = containing_holds
