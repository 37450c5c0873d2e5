use Rattle.std.proofs.Common.{◌≡◌, find, take, None}
use Rattle.semantics.specs.Patterns.{overlaps}
use Rattle.join_set.proofs.stands.clash.Given as goal

abbrev pub invariant-loop-stands : goal.invariant-loop-stands
invariant-loop-stands l = find (λ s. overlaps l.join.output s.join.output) (take l.stands-index l.joins) ≡ None
