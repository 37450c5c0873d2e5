use Rattle.layering.proofs.LayerLemmas.{output_is_new_below}
use Rattle.layering.proofs.layer_laws.output_is_new_below.Goals as goal

pub returns : goal.returns
returns c = output_is_new_below
