use Rattle.key_ranges.proofs.LongestLemmas.{shared_is_longest}
use Rattle.key_ranges.proofs.containing_laws.shared_is_longest.Goals as goal

pub returns : goal.returns
returns c = shared_is_longest
