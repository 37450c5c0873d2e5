use Rattle.layering.proofs.MergeLemmas.{merged_into_nothing}
use Rattle.layering.proofs.merge_laws.merged_into_nothing.Goals as goal

pub returns : goal.returns
returns c = merged_into_nothing
