use Rattle.std.proofs.Common.{List, ◌∙◌, subst}
use Rattle.growing_history.proofs.ElementLemmas.{put_back}
use Rattle.write_history.specs.Passes.{PassView}
use Rattle.pequod_cache.specs.Meeting.{HaveMet}
use Rattle.load_run.proofs.MeetLemmas.{all_held}
use Rattle.load_run.proofs.reading.read_all.Goals as goal

pub returns : goal.returns
returns g c =
    let lent = c.deref_mut.ensures.value in
    let same = c.meet_all.auto.others in
    let back = put_back c.meet_all.new.others c.args.others.items c.args.others.len c.args.others.ok.0 (rw lent at same) in
    let again = c.deref_mut-2.ensures.value ∙ back in
    all_held c.args.first c.meet_all.new.first c.read_tables.new.client c.args.others.items c.meet_all.new.others c.meet_all-2.new.others c.meet_all-2.new.first.view c.in_ok-tables.tables
    c.meet_all.ensures.added
    (subst (λ (clients : List PassView). HaveMet c.args.first.view c.meet_all.new.first.view clients c.meet_all.new.others) lent c.meet_all.ensures.met)
    c.in_ok-tables.ensures.reads
    (subst (λ (clients : List PassView). HaveMet c.read_tables.new.client.view c.meet_all-2.new.first.view clients c.meet_all-2.new.others) again c.meet_all-2.ensures.met)
    c.in_ok-tables.ensures.held
