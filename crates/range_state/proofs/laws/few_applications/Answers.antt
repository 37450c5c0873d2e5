use Rattle.range_state.proofs.CountLemmas.{few_applications}
use Rattle.range_state.proofs.laws.few_applications.Goals as goal

pub returns : goal.returns
returns c = few_applications
