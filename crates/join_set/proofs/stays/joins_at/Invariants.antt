use Rattle.std.proofs.Common.{◌≡◌, take}
use Rattle.semantics.specs.Stays.{joins_at}
use Rattle.join_set.proofs.stays.joins_at.Given as goal

abbrev pub invariant-loop-stay : goal.invariant-loop-stay
invariant-loop-stay l = l.joins.items ≡ joins_at l.p (take l.stay-index l.stays)
