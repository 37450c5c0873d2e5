use Rattle.std.proofs.Common.{◌≡◌, take}
use Rattle.join_set.specs.Timelines.{changed_up_to}
use Rattle.join_set.proofs.stays.changed_up_to.Given as goal

abbrev pub invariant-loop-stay : goal.invariant-loop-stay
invariant-loop-stay l = l.changed ≡ changed_up_to l.p (take l.stay-index l.stays)
