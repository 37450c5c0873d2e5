use Rattle.std.proofs.Common.{◌≡◌, take, map}
use Rattle.pequod_commands.proofs.serve.copies.Given as goal

abbrev pub invariant-loop-i : goal.invariant-loop-i
invariant-loop-i l = l.joins.items ≡ take l.i (map (λ s. s.join) l.set.standing)
