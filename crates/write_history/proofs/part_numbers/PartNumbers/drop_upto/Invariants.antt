use Rattle.std.proofs.Common.{◌≡◌, ◌<◌, ◌≤◌, ℕ, [], drop, nat_le}
use Rattle.std.specs.List.{count_by}
use Rattle.base_versions.specs.Positions.{AscendBy}
use Rattle.write_history.specs.Numbers.{positions_of}
use Rattle.write_history.proofs.part_numbers.PartNumbers.drop_upto.Given as goal

-- of the first parts those up to the position are taken out, the others are as they were, and no others come
abbrev pub invariant-loop-part : goal.invariant-loop-part
invariant-loop-part l = record {
  done : (part : ℕ) → part < l.part → AscendBy (λ n. n) 0 (positions_of part l.fn.self) → positions_of part l.self ≡ drop (count_by (λ n. nat_le n l.position) (positions_of part l.fn.self)) (positions_of part l.fn.self);
  left : (part : ℕ) → l.part ≤ part → positions_of part l.self ≡ positions_of part l.fn.self;
  none : 0 < l.part → (part : ℕ) → 16 ≤ part → positions_of part l.self ≡ [];
}
