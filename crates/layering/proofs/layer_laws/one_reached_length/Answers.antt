use Rattle.layering.proofs.LayerLemmas.{one_reached_length}
use Rattle.layering.proofs.layer_laws.one_reached_length.Goals as goal

pub returns : goal.returns
returns c = one_reached_length
