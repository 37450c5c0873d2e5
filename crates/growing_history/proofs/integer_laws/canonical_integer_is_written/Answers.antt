use Rattle.growing_history.proofs.IntegerLemmas.{canonical_integer_is_written_lem}
use Rattle.growing_history.proofs.integer_laws.canonical_integer_is_written.Goals as goal

pub returns : goal.returns
returns c = canonical_integer_is_written_lem
