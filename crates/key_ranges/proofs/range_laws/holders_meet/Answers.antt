use Rattle.key_ranges.proofs.RangeLemmas.{holders_meet}
use Rattle.key_ranges.proofs.range_laws.holders_meet.Goals as goal

pub returns : goal.returns
returns c = holders_meet
