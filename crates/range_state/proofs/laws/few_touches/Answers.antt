use Rattle.range_state.proofs.CountLemmas.{few_touches}
use Rattle.range_state.proofs.laws.few_touches.Goals as goal

pub returns : goal.returns
returns c = few_touches
