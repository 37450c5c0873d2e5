use Rattle.key_ranges.proofs.RangeLemmas.{common_holds_low}
use Rattle.key_ranges.proofs.range_laws.meet_is_shared.Goals as goal

pub returns : goal.returns
returns c = common_holds_low
