use Rattle.kept_ranges.proofs.SoundLemmas.{advanced_is_sound}
use Rattle.kept_ranges.proofs.sound_laws.advanced_is_sound.Goals as goal

pub returns : goal.returns
returns c = advanced_is_sound
