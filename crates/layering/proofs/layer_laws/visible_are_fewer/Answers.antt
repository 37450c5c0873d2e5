use Rattle.layering.proofs.LayerLemmas.{visible_are_fewer}
use Rattle.layering.proofs.layer_laws.visible_are_fewer.Goals as goal

pub returns : goal.returns
returns c = visible_are_fewer
