use Rattle.std.proofs.Common.{◌≡◌, ◌≤◌, take}
use Rattle.semantics.specs.Outputs.{digits_value}
use Rattle.join_lang.proofs.slots.width_of.Given as goal

abbrev pub invariant-loop-byte : goal.invariant-loop-byte
invariant-loop-byte l = (l.width ≡ digits_value (take l.byte-index l.bytes)) × (l.width ≤ 64)
