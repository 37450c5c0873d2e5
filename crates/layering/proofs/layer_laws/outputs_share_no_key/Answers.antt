use Rattle.layering.proofs.LayerLemmas.{outputs_share_no_key}
use Rattle.layering.proofs.layer_laws.outputs_share_no_key.Goals as goal

pub returns : goal.returns
returns c = outputs_share_no_key
