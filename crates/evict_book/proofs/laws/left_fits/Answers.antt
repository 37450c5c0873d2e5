use Rattle.evict_book.proofs.VictimLemmas.{left_fits}
use Rattle.evict_book.proofs.laws.left_fits.Goals as goal

pub returns : goal.returns
returns c = left_fits
