use Rattle.semantics.proofs.PatternLemmas.{bind_least}
use Rattle.semantics.proofs.pattern_laws.bind_is_least.Goals as goal

pub returns : goal.returns
returns c = bind_least
