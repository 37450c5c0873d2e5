use Rattle.kept_ranges.proofs.AdvanceLemmas.{advanced_is_right}
use Rattle.kept_ranges.proofs.advance_laws.advanced_is_right.Goals as goal

pub returns : goal.returns
returns c = advanced_is_right
