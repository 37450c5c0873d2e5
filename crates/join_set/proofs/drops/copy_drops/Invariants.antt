use Rattle.std.proofs.Common.{◌≡◌, take}
use Rattle.join_set.proofs.drops.copy_drops.Given as goal

abbrev pub invariant-loop-last : goal.invariant-loop-last
invariant-loop-last l = l.copies.items ≡ take l.last-index l.drops
