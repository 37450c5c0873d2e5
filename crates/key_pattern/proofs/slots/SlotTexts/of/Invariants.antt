use Rattle.std.proofs.Common.{◌≡◌, take, map, option_map}
use Rattle.std.specs.String.{string_bytes}
use Rattle.key_pattern.specs.Places.{lent_texts}
use Rattle.key_pattern.proofs.slots.SlotTexts.of.Given as goal

abbrev pub invariant-loop-text : goal.invariant-loop-text
invariant-loop-text l = map (option_map string_bytes) l.texts.items ≡ take l.text-index (lent_texts l.text-items)
