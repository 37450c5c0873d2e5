use Rattle.std.proofs.Common.{◌≡◌, ◌++◌, drop}
use Rattle.join_set.specs.Sets.{drops_made}
use Rattle.join_set.proofs.drops.drops_made.Given as goal

abbrev pub invariant-loop-stands : goal.invariant-loop-stands
invariant-loop-stands l = l.made.items ++ drops_made l.position l.at (drop l.stands-index l.joins) ≡ drops_made l.position l.at l.joins
