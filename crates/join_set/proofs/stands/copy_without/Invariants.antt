use Rattle.std.proofs.Common.{◌≡◌, take}
use Rattle.semantics.specs.Histories.{without}
use Rattle.join_set.proofs.stands.copy_without.Given as goal

abbrev pub invariant-loop-stands : goal.invariant-loop-stands
invariant-loop-stands l = l.copies.items ≡ without l.position (take l.stands-index l.joins)
