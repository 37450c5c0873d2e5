use Rattle.layering.proofs.PartLemmas.{part_of_range}
use Rattle.layering.proofs.part_laws.part_of_range.Goals as goal

pub returns : goal.returns
returns c = part_of_range
