use Rattle.std.proofs.Common.{refl}
use Rattle.semantics.specs.Patterns.{no_slots}
use Rattle.key_pattern.proofs.slots.Slots.none.Goals as goal

pub returns : goal.returns
unfolding no_slots
returns c = refl
