use Rattle.range_state.proofs.FillingLemmas.{need_can_fill}
use Rattle.range_state.proofs.laws.need_can_fill.Goals as goal

pub returns : goal.returns
returns c = need_can_fill
