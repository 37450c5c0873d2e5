use Rattle.semantics.proofs.PatternLemmas.{fill_fits}
use Rattle.semantics.proofs.pattern_laws.fill_fits.Goals as goal

pub returns : goal.returns
returns c = fill_fits
