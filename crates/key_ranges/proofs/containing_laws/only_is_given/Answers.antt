use Rattle.key_ranges.proofs.OnlyLemmas.{only_is_given}
use Rattle.key_ranges.proofs.containing_laws.only_is_given.Goals as goal

pub returns : goal.returns
returns c = only_is_given
