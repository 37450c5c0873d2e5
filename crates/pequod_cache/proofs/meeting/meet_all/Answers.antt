use Rattle.std.proofs.Common.{◌<◌, length, [], sym, subst, arith}
use Rattle.write_history.specs.Passes.{PassView}
use Rattle.pequod_cache.specs.Adding.{OnlyReads}
use Rattle.pequod_cache.proofs.AddingLemmas.{added_more, reads_added}
use Rattle.pequod_cache.proofs.MeetLemmas.{met_more}
use Rattle.pequod_cache.proofs.meeting.meet_all.Goals as goal

pub loop-other-preserved : goal.loop-other-preserved
loop-other-preserved g c =
    let so_far = c.loop-other.invariant in
    let within : c.loop-other.other-index < length c.loop-other.others = omega (arith, c.loop-other.auto.others) in
    let first : OnlyReads c.loop-other.first c.meet.new.self = record { goes_on = c.meet.ensures.first; none = c.meet.ensures.own.0 } in
    record {
      added = added_more [] [] c.args.first.now c.loop-other.first c.meet.new.self so_far.added (reads_added c.loop-other.first c.meet.new.self first);
      met = met_more c.loop-other.other-index c.args.first.now.view c.loop-other.first.view c.meet.new.self.view c.args.others.now c.loop-other.others c.other-item.result c.meet.new.other
          within c.other-item.is (subst (λ (p : PassView). OnlyReads p c.meet.new.other) (sym c.other-item.is) (record { goes_on = c.meet.ensures.second; none = c.meet.ensures.own.1 }))
          so_far.added.begins c.meet.ensures.first.begins c.meet.ensures.same so_far.met;
    }
