use Rattle.layering.proofs.PartLemmas.{two_make_range}
use Rattle.layering.proofs.part_laws.two_make_range.Goals as goal

pub returns : goal.returns
returns c = two_make_range
