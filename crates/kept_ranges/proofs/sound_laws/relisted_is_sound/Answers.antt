use Rattle.kept_ranges.proofs.SoundLemmas.{relisted_is_sound}
use Rattle.kept_ranges.proofs.sound_laws.relisted_is_sound.Goals as goal

pub returns : goal.returns
returns c = relisted_is_sound
