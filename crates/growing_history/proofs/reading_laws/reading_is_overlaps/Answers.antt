use Rattle.growing_history.proofs.ReadingLemmas.{reading_is_overlaps_lem}
use Rattle.growing_history.proofs.reading_laws.reading_is_overlaps.Goals as goal

pub returns : goal.returns
returns c = reading_is_overlaps_lem
