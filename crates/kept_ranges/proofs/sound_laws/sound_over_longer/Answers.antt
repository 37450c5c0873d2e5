use Rattle.kept_ranges.proofs.SoundLemmas.{sound_over_longer}
use Rattle.kept_ranges.proofs.sound_laws.sound_over_longer.Goals as goal

pub returns : goal.returns
returns c = sound_over_longer
