use Rattle.std.proofs.Common.{◌≡◌, ◌+◌, ◌<◌, ◌++◌, ◌∷◌, [], length, map, refl, ap, sym, ◌∙◌, subst, arith, rules, append-nil}
use Rattle.std.specs.List.{AllByRecursion}
use Rattle.std.proofs.lemmas.List.{map-append}
use Rattle.door_queue.specs.Tallies.{Tallied, joined}
use Rattle.pq_io.specs.Doors.{lists_of}
use Rattle.server.proofs.ReceiptLemmas.{joined_more, map_more}
use Rattle.server.proofs.settling.part_all.Goals as goal

pub loop-worker-init : goal.loop-worker-init
loop-worker-init g c =
    let all = c.into_iter-worker-iterator.ensures.into_iter_gives.0 in
    let count = ap length all in
    let room = c.requires.room in
    let place = c.requires.place in
    record {
      next = search rules;
      finite = search rules;
      tally = refl;
      queue = c.requires.queue;
      queues = subst (AllByRecursion (λ w. w.tally.queue ≡ c.args.queue.now)) (sym all) c.requires.workers;
      parts = c.requires.parts;
      clients = sym (append-nil c.args.clients.now.items);
      receipts = sym (append-nil (lists_of c.args.receipts.now.items));
      room = omega arith;
      place = omega arith;
      same_place = refl;
    }

-- it is of the queue, as the first of those that are left
pub join-requires-clause-other : goal.join-requires-clause-other
join-requires-clause-other g c =
    ap (λ w. w.tally.queue) c.worker.view_is ∙ (subst (AllByRecursion (λ w. w.tally.queue ≡ c.args.queue.now)) c.in-Some.ensures.steps.0 c.loop-worker.invariant.queues).0

pub loop-worker-preserved : goal.loop-worker-preserved
loop-worker-preserved g c =
    let so_far = c.loop-worker.invariant in
    let done = c.loop-worker.yielded in
    let worker = c.in-Some.worker in
    let is = c.worker.view_is in
    let left = ap length c.in-Some.ensures.steps.0 in
    let theirs = c.push_reserved.ensures in
    let list = c.push_reserved-in-loop-worker.ensures in
    let joins : c.join.new.tally ≡ joined c.loop-worker.tally worker.tally = c.join.ensures ∙ ap (λ w. joined c.loop-worker.tally w.tally) is in
    let more = ap (λ (t : Tallied _). t.parts) joins in
    let room = so_far.room in
    let place = so_far.place in
    let some = so_far.parts in
    record {
      next = tt;
      finite = tt;
      tally = joined_more (λ w. w.tally) c.args.tally.now c.loop-worker.tally c.join.new.tally done worker so_far.tally joins;
      queue = ap (λ (t : Tallied _). t.queue) joins ∙ so_far.queue;
      queues = (subst (AllByRecursion (λ w. w.tally.queue ≡ c.args.queue.now)) c.in-Some.ensures.steps.0 so_far.queues).1;
      parts = omega arith;
      clients = map_more (λ w. w.client) c.args.clients.now.items c.loop-worker.clients.items _ done worker so_far.clients
          (theirs.items ∙ ap (λ w. c.loop-worker.clients.items ++ w.client ∷ []) is);
      receipts = map_more (λ w. w.receipts) (lists_of c.args.receipts.now.items) (lists_of c.loop-worker.receipts.items) _ done worker so_far.receipts
          (ap lists_of list.items ∙ map-append (λ l. l.items) c.loop-worker.receipts.items (_ ∷ []) ∙ ap (λ w. lists_of c.loop-worker.receipts.items ++ w.receipts ∷ []) is);
      room = omega (arith, room, left, theirs.len, theirs.capacity, c.loop-worker.clients.ok.0, c.push_reserved.new.self.ok.0);
      place = omega (arith, place, left, list.len, list.capacity, c.loop-worker.receipts.ok.0, c.push_reserved-in-loop-worker.new.self.ok.0);
      same_place = list.capacity ∙ so_far.same_place;
    }
