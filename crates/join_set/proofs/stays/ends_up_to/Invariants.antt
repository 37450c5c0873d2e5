use Rattle.std.proofs.Common.{◌≡◌, take}
use Rattle.semantics.specs.Texts.{Text}
use Rattle.join_set.specs.Timelines.{dropped_up_to, end_of}
use Rattle.join_set.proofs.stays.ends_up_to.Given as goal

abbrev pub invariant-loop-stay : goal.invariant-loop-stay
invariant-loop-stay l = (table : Text) → end_of table l.ends ≡ dropped_up_to l.p table (take l.stay-index l.stays)
