use Rattle.semantics.proofs.PatternLemmas.{fits_overlap}
use Rattle.semantics.proofs.pattern_laws.fits_overlap.Goals as goal

pub returns : goal.returns
returns c = fits_overlap
