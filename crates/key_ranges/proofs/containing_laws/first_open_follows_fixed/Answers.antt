use Rattle.key_ranges.proofs.OpenLemmas.{first_open_follows_fixed}
use Rattle.key_ranges.proofs.containing_laws.first_open_follows_fixed.Goals as goal

pub returns : goal.returns
returns c = first_open_follows_fixed
