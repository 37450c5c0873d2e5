use Rattle.growing_history.proofs.UnchangedLemmas.{bare_is_base}
use Rattle.growing_history.proofs.change_laws.bare_is_base.Goals as goal

pub returns : goal.returns
returns c = bare_is_base
