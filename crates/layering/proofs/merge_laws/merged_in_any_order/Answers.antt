use Rattle.layering.proofs.MergeLemmas.{merged_in_any_order}
use Rattle.layering.proofs.merge_laws.merged_in_any_order.Goals as goal

pub returns : goal.returns
returns c = merged_in_any_order
