use Rattle.layering.proofs.LayerLemmas.{visible_within}
use Rattle.layering.proofs.layer_laws.visible_within.Goals as goal

pub returns : goal.returns
returns c = visible_within
