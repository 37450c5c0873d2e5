use Rattle.std.proofs.Common.{◌≡◌, ◌++◌, take, drop}
use Rattle.semantics.specs.Histories.{drop_join}
use Rattle.semantics.specs.Stays.{stays_after}
use Rattle.join_set.proofs.stays.end_stays.Given as goal

abbrev pub invariant-loop-stay : goal.invariant-loop-stay
invariant-loop-stay l = l.stays ≡ stays_after l.position (drop_join l.at) (take l.stay-index l.initial.stays) ++ drop l.stay-index l.initial.stays
