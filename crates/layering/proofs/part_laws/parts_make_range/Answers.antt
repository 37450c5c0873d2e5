use Rattle.layering.proofs.PartLemmas.{parts_make_range}
use Rattle.layering.proofs.part_laws.parts_make_range.Goals as goal

pub returns : goal.returns
returns c = parts_make_range
