use Rattle.std.proofs.Common.{◌≡◌, length, ap, ◌∙◌, subst}
use Rattle.write_history.specs.Looks.{TellsJoins}
use Rattle.write_history.specs.Steps.{Sat}
use Rattle.write_history.specs.Marks.{before}
use Rattle.write_history.proofs.Telling.{log_seen, looked_all}
use Rattle.write_history.proofs.turn.look_joins.Goals as goal

pub copy_joins-requires-clause-log : goal.copy_joins-requires-clause-log
copy_joins-requires-clause-log c =
    let has = c.requires.log in
    (has.0, has.1, log_seen has.0 has.1 c.args.place.now.me c.look-length.new.place.me (before c.look-length.result) c.look-length.ensures.seen has.2)

pub returns-clause-told : goal.returns-clause-told
returns-clause-told c = λ h log has.
    subst (λ n. TellsJoins n h c.args.known c.in_ok-joins.joins) (ap (λ (x : Sat). x.0.lacks) c.look-length.ensures.seen)
    (c.in_ok-joins.ensures.told h log (log_seen h log c.args.place.now.me c.look-length.new.place.me (before c.look-length.result) c.look-length.ensures.seen has))

pub returns-in_err-joins-clause-seen : goal.returns-in_err-joins-clause-seen
returns-in_err-joins-clause-seen c = c.copy_joins.ensures.unchanged ∙ looked_all c.args.place.now.me c.look-length.new.place.me c.look-length.result c.look-length.ensures.seen c.look-length.ensures.count

pub returns-clause-seen : goal.returns-clause-seen
returns-clause-seen c = c.copy_joins.ensures.unchanged ∙ looked_all c.args.place.now.me c.look-length.new.place.me c.look-length.result c.look-length.ensures.seen c.look-length.ensures.count
