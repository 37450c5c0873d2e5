use Rattle.key_ranges.proofs.PrefixLemmas.{within-just}
use Rattle.key_ranges.proofs.range_laws.just_holds.Goals as goal

pub returns : goal.returns
returns c = within-just
