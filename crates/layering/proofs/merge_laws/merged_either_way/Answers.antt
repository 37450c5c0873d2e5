use Rattle.layering.proofs.MergeLemmas.{merged_either_way}
use Rattle.layering.proofs.merge_laws.merged_either_way.Goals as goal

pub returns : goal.returns
returns c = merged_either_way
