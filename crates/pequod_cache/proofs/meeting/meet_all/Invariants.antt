use Rattle.std.proofs.Common.{[]}
use Rattle.pequod_cache.specs.Adding.{HasAdded}
use Rattle.pequod_cache.proofs.MeetLemmas.{HaveMetUpTo}
use Rattle.pequod_cache.proofs.meeting.meet_all.Given as goal

abbrev pub invariant-loop-other : goal.invariant-loop-other
invariant-loop-other g l = record {
  added : HasAdded [] l.fn.first l.first;
  met : HaveMetUpTo l.other-index l.fn.first.view l.first.view l.fn.others l.others;
}
