use Rattle.semantics.proofs.BindLemmas.{length-bind}
use Rattle.growing_history.proofs.pattern_laws.bind_keeps_places.Goals as goal

pub returns : goal.returns
returns c = length-bind
