use Rattle.semantics.proofs.PatternLemmas.{fit_is_fill}
use Rattle.semantics.proofs.pattern_laws.fit_is_fill.Goals as goal

pub returns : goal.returns
returns c = fit_is_fill
