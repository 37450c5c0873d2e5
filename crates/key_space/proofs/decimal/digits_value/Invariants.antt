use Rattle.std.proofs.Common.{◌≡◌, ◌≤◌, ◌-◌, ◌^◌, take}
use Rattle.semantics.specs.Outputs.{digits_value}
use Rattle.key_space.proofs.decimal.digits_value.Given as goal

abbrev pub invariant-loop-digit : goal.invariant-loop-digit
invariant-loop-digit l = (l.number ≡ digits_value (take l.digit-index l.digits)) × (l.number ≤ 2 ^ 64 - 1)
