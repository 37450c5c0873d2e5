use Rattle.layering.proofs.LayerLemmas.{below_next_within}
use Rattle.layering.proofs.layer_laws.below_next_within.Goals as goal

pub returns : goal.returns
returns c = below_next_within
