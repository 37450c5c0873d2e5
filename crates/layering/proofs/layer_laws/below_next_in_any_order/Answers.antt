use Rattle.layering.proofs.LayerLemmas.{below_next_in_any_order}
use Rattle.layering.proofs.layer_laws.below_next_in_any_order.Goals as goal

pub returns : goal.returns
returns c = below_next_in_any_order
