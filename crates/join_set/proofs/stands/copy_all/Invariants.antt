use Rattle.std.proofs.Common.{◌≡◌, take}
use Rattle.join_set.proofs.stands.copy_all.Given as goal

abbrev pub invariant-loop-stands : goal.invariant-loop-stands
invariant-loop-stands l = l.copies.items ≡ take l.stands-index l.joins
