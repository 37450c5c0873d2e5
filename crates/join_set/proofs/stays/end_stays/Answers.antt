use Rattle.std.proofs.Common.{◌&&◌, ◌==◌, Some, is_none, if◌then◌else◌}
use Rattle.semantics.specs.Stays.{Stay}
use Rattle.join_set.proofs.StayLemmas.{changed_more}
use Rattle.join_set.proofs.stays.end_stays.Goals as goal

pub loop-stay-preserved : goal.loop-stay-preserved
loop-stay-preserved c =
    changed_more (λ (s : Stay). if (s.position == c.args.at) && is_none s.until then record { position = s.position; join = s.join; until = Some c.args.position } else s)
    c.args.stays.now c.loop-stay.stays c.loop-stay.stay-index c.stay-item.result c.end.new.self c.loop-stay-test.true c.loop-stay.invariant c.end.ensures
