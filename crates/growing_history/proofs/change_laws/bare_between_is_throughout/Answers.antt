use Rattle.growing_history.proofs.BareLemmas.{bare_between_is_throughout}
use Rattle.growing_history.proofs.change_laws.bare_between_is_throughout.Goals as goal

pub returns : goal.returns
returns c = bare_between_is_throughout
