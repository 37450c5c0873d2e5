use Rattle.kept_ranges.proofs.FillLemmas.{filled_is_right}
use Rattle.kept_ranges.proofs.fill_laws.filled_is_right.Goals as goal

pub returns : goal.returns
returns c = filled_is_right
