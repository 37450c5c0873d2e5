use Rattle.layering.proofs.MergeLemmas.{merged_ascends}
use Rattle.layering.proofs.merge_laws.merged_ascends.Goals as goal

pub returns : goal.returns
returns c = merged_ascends
