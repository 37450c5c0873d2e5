use Rattle.layering.proofs.MergeLemmas.{merged_within}
use Rattle.layering.proofs.merge_laws.merged_within.Goals as goal

pub returns : goal.returns
returns c = merged_within
