use Rattle.growing_history.proofs.IntegerLemmas.{no_canonical_integer_lem}
use Rattle.growing_history.proofs.integer_laws.no_canonical_integer.Goals as goal

pub returns : goal.returns
returns c = no_canonical_integer_lem
