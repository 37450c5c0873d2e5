use Rattle.kept_ranges.proofs.SoundLemmas.{filled_is_sound}
use Rattle.kept_ranges.proofs.sound_laws.filled_is_sound.Goals as goal

pub returns : goal.returns
returns c = filled_is_sound
