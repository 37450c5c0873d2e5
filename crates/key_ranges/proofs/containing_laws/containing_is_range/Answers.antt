use Rattle.key_ranges.proofs.NarrowedLemmas.{containing_is_range}
use Rattle.key_ranges.proofs.containing_laws.containing_is_range.Goals as goal

pub returns : goal.returns
returns c = containing_is_range
