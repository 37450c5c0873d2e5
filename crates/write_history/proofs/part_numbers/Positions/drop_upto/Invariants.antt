use Rattle.std.proofs.Common.{◌≡◌, drop}
use Rattle.write_history.proofs.part_numbers.Positions.drop_upto.Given as goal

-- so many are taken out
abbrev pub invariant-loop-number : goal.invariant-loop-number
invariant-loop-number l = l.self-inside.queue.items ≡ drop l._number l.fn.self.positions
