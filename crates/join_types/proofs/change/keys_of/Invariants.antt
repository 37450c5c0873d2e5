use Rattle.std.proofs.Common.{◌≡◌, map}
use Rattle.join_types.proofs.change.keys_of.Given as goal

abbrev pub invariant-loop-change : goal.invariant-loop-change
invariant-loop-change l = l.keys.items ≡ map (λ change. change.key) l.yielded
