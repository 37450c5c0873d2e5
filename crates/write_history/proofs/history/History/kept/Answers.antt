use Rattle.write_history.proofs.Pinning.{counts_kept}
use Rattle.write_history.proofs.history.History.kept.Goals as goal

pub returns-clause-kept : goal.returns-clause-kept
returns-clause-kept g c =
    let kept = c.count_kept-kept.ensures in
    counts_kept c.pass.inside.place.me c.take_turn.new.place.me c.count_kept-kept.new.place.me c.free_turn.new.place.me c.take_turn.ensures.taken c.count_kept-kept.result kept.above kept.kept kept.seen c.free_turn.ensures.freed
