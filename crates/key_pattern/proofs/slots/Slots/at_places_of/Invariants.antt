use Rattle.key_pattern.proofs.SlotPlaceLemmas.{KeptUpTo}
use Rattle.key_pattern.proofs.slots.Slots.at_places_of.Given as goal

abbrev pub invariant-loop-place : goal.invariant-loop-place
invariant-loop-place l = KeptUpTo l.self l.others l.place l.kept
