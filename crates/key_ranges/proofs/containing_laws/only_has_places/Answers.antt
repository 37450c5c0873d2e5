use Rattle.key_ranges.proofs.OnlyLemmas.{only_has_places}
use Rattle.key_ranges.proofs.containing_laws.only_has_places.Goals as goal

pub returns : goal.returns
returns c = only_has_places
