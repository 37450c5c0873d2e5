use Rattle.load_gen.proofs.SharedLemmas.{shared_load_is_load}
use Rattle.load_gen.proofs.shared_laws.shared_load_is_load.Goals as goal

pub returns : goal.returns
returns c = shared_load_is_load
