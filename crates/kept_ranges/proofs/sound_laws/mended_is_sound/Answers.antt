use Rattle.kept_ranges.proofs.SoundLemmas.{mended_is_sound}
use Rattle.kept_ranges.proofs.sound_laws.mended_is_sound.Goals as goal

pub returns : goal.returns
returns c = mended_is_sound
