use Rattle.key_ranges.proofs.BindRangeLemmas.{bind_range_gives_slots}
use Rattle.key_ranges.proofs.containing_laws.bind_range_gives_slots.Goals as goal

pub returns : goal.returns
returns c = bind_range_gives_slots
