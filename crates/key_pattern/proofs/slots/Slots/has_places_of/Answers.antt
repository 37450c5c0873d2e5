use Rattle.std.proofs.Common.{arith}
use Rattle.key_pattern.proofs.slots.Slots.has_places_of.Goals as goal

pub returns : goal.returns
returns c = λ _ place less. c.loop-place.invariant place (omega arith)
