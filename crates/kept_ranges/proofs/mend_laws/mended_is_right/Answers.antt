use Rattle.kept_ranges.proofs.MendLemmas.{mended_is_right}
use Rattle.kept_ranges.proofs.mend_laws.mended_is_right.Goals as goal

pub returns : goal.returns
returns c = mended_is_right
