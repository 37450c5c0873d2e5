use Rattle.layering.proofs.LayerLemmas.{unreached_is_visible}
use Rattle.layering.proofs.layer_laws.unreached_is_visible.Goals as goal

pub returns : goal.returns
returns c = unreached_is_visible
