use Rattle.std.proofs.Common.{◌≡◌, take, map, option_map}
use Rattle.std.specs.String.{string_bytes}
use Rattle.key_pattern.specs.Places.{lent_texts, padded}
use Rattle.key_pattern.proofs.slots.SlotTexts.lend.Given as goal

abbrev pub invariant-loop-place : goal.invariant-loop-place
invariant-loop-place l = lent_texts l.texts ≡ padded (take l.place (map (option_map string_bytes) l.text-items))
