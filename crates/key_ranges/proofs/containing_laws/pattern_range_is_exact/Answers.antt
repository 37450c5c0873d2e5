use Rattle.key_ranges.proofs.ExactLemmas.{pattern_range_is_exact}
use Rattle.key_ranges.proofs.containing_laws.pattern_range_is_exact.Goals as goal

pub returns : goal.returns
returns c = pattern_range_is_exact
