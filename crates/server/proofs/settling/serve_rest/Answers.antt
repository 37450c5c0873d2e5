use Rattle.std.proofs.Common.{◌+◌, List, ap, ◌∙◌, subst}
use Rattle.pq_io.specs.Links.{link_told}
use Rattle.door_queue.specs.Tallies.{Tallied}
use Rattle.growing_history.proofs.ElementLemmas.{put_back}
use Rattle.write_history.specs.Passes.{PassView}
use Rattle.pequod_cache.specs.Meeting.{HaveMet}
use Rattle.pequod_cache.proofs.AddingLemmas.{none_more}
use Rattle.pequod_cache.proofs.MeetLemmas.{have_all_of}
use Rattle.server.specs.Receipts.{HasServed, ServedTheRest}
use Rattle.server.proofs.settling.serve_rest.Goals as goal

pub join-requires-clause-other : goal.join-requires-clause-other
join-requires-clause-other g c = ap (λ w. w.tally.queue) c.last.view_is ∙ c.requires.same_queue

pub serve_left-requires-clause-queue : goal.serve_left-requires-clause-queue
serve_left-requires-clause-queue g c = ap (λ (t : Tallied _). t.queue) c.join.ensures ∙ c.requires.queue

pub serve_left-requires-clause-whole : goal.serve_left-requires-clause-whole
serve_left-requires-clause-whole g c = ap (λ (t : Tallied _). t.parts) c.join.ensures ∙ ap (λ w. c.args.tally.now.parts + w.tally.parts) c.last.view_is ∙ c.requires.whole

pub returns : goal.returns
returns g c =
    let told = link_told g.K.Link.left g.K.Link.taken g.K.Link.read_faults g.K.Link.write_faults in
    let tells = g.K.Link.tells in
    let last = c.last.inside in
    let left = c.serve_left.ensures in
    let new = c.serve_left.new in
    let seen = new.service.client in
    let first = c.meet_all.new.first in
    let lent = c.deref_mut.ensures.value in
    let same = c.meet_all.auto.others in
    let back = put_back c.meet_all.new.others c.args.others.items c.args.others.len c.args.others.ok.0 (rw lent at same) in
    let again = c.deref_mut-2.ensures.value ∙ back in
    subst (λ w. ServedTheRest told tells w c.args.others.items c.args.tally.now new.tally new.receipts.items) c.last.view_is
    (record {
      seen = seen.view;
      history = first.view;
      served = subst (λ t. HasServed told tells last.client.number last.client.view new.service.client.view t new.tally last.receipts.items new.receipts.items) c.join.ensures left.served;
      once = left.once;
      within = c.meet_all.ensures.added.begins;
      all = none_more last.client.number seen first left.same_number c.meet_all.ensures.added;
      met = have_all_of seen.view first.view c.meet_all-2.new.first.view c.args.others.items c.meet_all.new.others c.meet_all-2.new.others
          (subst (λ (clients : List PassView). HaveMet seen.view first.view clients c.meet_all.new.others) lent c.meet_all.ensures.met)
          (subst (λ (clients : List PassView). HaveMet first.view c.meet_all-2.new.first.view clients c.meet_all-2.new.others) again c.meet_all-2.ensures.met);
    })
