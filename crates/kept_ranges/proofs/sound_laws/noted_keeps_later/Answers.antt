use Rattle.kept_ranges.proofs.NoteLemmas.{noted_keeps_later}
use Rattle.kept_ranges.proofs.sound_laws.noted_keeps_later.Goals as goal

pub returns : goal.returns
returns c = noted_keeps_later
