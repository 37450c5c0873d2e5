use Rattle.key_ranges.proofs.NarrowedLemmas.{containing_lies_in_prefix}
use Rattle.key_ranges.proofs.containing_laws.containing_lies_in_prefix.Goals as goal

pub returns : goal.returns
returns c = containing_lies_in_prefix
