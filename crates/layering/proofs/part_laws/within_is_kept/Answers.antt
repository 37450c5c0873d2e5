use Rattle.layering.proofs.PartLemmas.{within_is_kept}
use Rattle.layering.proofs.part_laws.within_is_kept.Goals as goal

pub returns : goal.returns
returns c = within_is_kept
