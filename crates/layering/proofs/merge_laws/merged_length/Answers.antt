use Rattle.layering.proofs.MergeLemmas.{merged_length}
use Rattle.layering.proofs.merge_laws.merged_length.Goals as goal

pub returns : goal.returns
returns c = merged_length
