use Rattle.range_state.proofs.FillingLemmas.{needs_can_fill}
use Rattle.range_state.proofs.laws.needs_can_fill.Goals as goal

pub returns : goal.returns
returns c = needs_can_fill
