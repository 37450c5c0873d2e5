use Rattle.std.proofs.Common.{◌≡◌, find, take, None}
use Rattle.semantics.specs.Patterns.{fits}
use Rattle.join_set.proofs.stands.owner.Given as goal

abbrev pub invariant-loop-stands : goal.invariant-loop-stands
invariant-loop-stands l = find (λ s. fits s.join.output l.key) (take l.stands-index l.joins) ≡ None
