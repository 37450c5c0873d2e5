use Rattle.std.proofs.Common.{◌≡◌, ℕ, [], length}
use Rattle.write_history.specs.Numbers.{positions_of}
use Rattle.write_history.proofs.part_numbers.PartNumbers.new.Given as goal

-- so many parts have no positions
abbrev pub invariant-loop-part : goal.invariant-loop-part
invariant-loop-part l = record {
  count : length l.parts.items ≡ l._part;
  none : (part : ℕ) → positions_of part l.parts.items ≡ [];
}
