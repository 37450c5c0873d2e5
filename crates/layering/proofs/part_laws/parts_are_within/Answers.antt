use Rattle.layering.proofs.PartLemmas.{parts_are_within}
use Rattle.layering.proofs.part_laws.parts_are_within.Goals as goal

pub returns : goal.returns
returns c = parts_are_within
