use Rattle.std.proofs.Common.{◌≡◌, ◌≤◌, length, sym, ap, ◌∙◌, arith}
use Rattle.write_history.specs.Marks.{before}
use Rattle.write_history.specs.Steps.{Sat, held_or}
use Rattle.write_history.proofs.Telling.{log_seen, looked_all}
use Rattle.write_history.proofs.turn.count_kept.Goals as goal

pub count_lacking-requires-clause-log : goal.count_lacking-requires-clause-log
count_lacking-requires-clause-log c =
    let has = c.requires.log in
    (has.0, has.1, log_seen has.0 has.1 c.args.place.now.me c.look-count.new.place.me (before c.look-count.result) c.look-count.ensures.seen has.2)
