use Rattle.growing_history.proofs.KindLemmas.{kinds_change_nothing_lem}
use Rattle.growing_history.proofs.state_laws.kinds_change_nothing.Goals as goal

pub returns : goal.returns
returns c = kinds_change_nothing_lem
