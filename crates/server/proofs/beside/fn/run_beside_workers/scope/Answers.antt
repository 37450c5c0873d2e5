use Rattle.std.proofs.Common.{◌≡◌, ◌++◌, ◌∷◌, [], length, map, ap, sym, ◌∙◌, subst, arith, rules, append_assoc}
use Rattle.std.specs.List.{AllByRecursion, AllZip}
use Rattle.std.proofs.lemmas.List.{map-append}
use Rattle.server.proofs.ReceiptLemmas.{all_next, no_more}
use Rattle.server.proofs.beside.fn.run_beside_workers.scope.Goals as goal

pub loop-worker-init : goal.loop-worker-init
loop-worker-init g c =
    let all = c.into_iter-worker-iterator.ensures.into_iter_gives.0 in
    let count = ap length all in
    let none = ap length c.in-Ok.ensures.items in
    let room = c.in-Ok.ensures.capacity in
    let place = c.in-Ok-with_capacity.ensures.capacity in
    let counted = c.captures.workers.ok.0 in
    record {
      next = search rules;
      finite = search rules;
      queues = subst (AllByRecursion (λ w. g.W.Labour.is_of w c.captures.queue.now)) (sym all) c.requires.1;
      threads = ap (λ l. map (λ t. t.promise.begun.value) l ++ c.into_iter-worker-iterator.result.rest.items) c.in-Ok.ensures.items;
      room = omega arith;
      place = omega arith;
    }

-- the worker that begins is the first of those that are left
pub spawn_with-requires-clause-runs : goal.spawn_with-requires-clause-runs
spawn_with-requires-clause-runs g c =
    let first : g.W.Labour.is_of c.in-Some.worker c.captures.queue.now =
    (all_next (λ w. g.W.Labour.is_of w c.captures.queue.now) _ _ _ c.in-Some.ensures.steps.0 c.loop-worker.invariant.queues).0 in
    search rules

-- there is room for one more
pub push_reserved-requires : goal.push_reserved-requires
push_reserved-requires g c =
    let left = ap length c.in-Some.ensures.steps.0 in
    let room = c.loop-worker.invariant.room in
    let counted = c.loop-worker.threads.ok.0 in
    omega arith

pub loop-worker-preserved : goal.loop-worker-preserved
loop-worker-preserved g c =
    let so_far = c.loop-worker.invariant in
    let worker = c.in-Some.worker in
    let thread = c.in-Ok-spawn_with.thread in
    let before = c.loop-worker.threads.items in
    let begun : thread.promise.begun.value ≡ worker = ap (λ p. p.begun.value) c.in-Ok-spawn_with.ensures.ok ∙ c.of-begun.ensures in
    let left = ap length c.in-Some.ensures.steps.0 in
    let room = so_far.room in
    let place = so_far.place in
    let longer = c.push_reserved.ensures.len in
    let same = c.push_reserved.ensures.capacity in
    let counted = c.loop-worker.threads.ok.0 in
    let counted_now = c.push_reserved.new.self.ok.0 in
    record {
      next = tt;
      finite = tt;
      queues = (all_next (λ w. g.W.Labour.is_of w c.captures.queue.now) _ _ _ c.in-Some.ensures.steps.0 so_far.queues).1;
      threads =
          ap (λ l. map (λ t. t.promise.begun.value) l ++ c.next.new.self.rest.items) c.push_reserved.ensures.items
          ∙ ap (λ l. l ++ c.next.new.self.rest.items) (map-append (λ t. t.promise.begun.value) before (thread ∷ []))
          ∙ append_assoc (map (λ t. t.promise.begun.value) before) (thread.promise.begun.value ∷ []) c.next.new.self.rest.items
          ∙ ap (λ w. map (λ t. t.promise.begun.value) before ++ w ∷ c.next.new.self.rest.items) begun
          ∙ ap (λ l. map (λ t. t.promise.begun.value) before ++ l) (sym c.in-Some.ensures.steps.0)
          ∙ so_far.threads;
      room = omega arith;
      place = omega arith;
    }

-- each worker has a thread
pub join_all-requires : goal.join_all-requires
join_all-requires g c =
    let place = c.loop-worker.invariant.place in
    record { none = c.in-Ok-with_capacity.ensures.items; room = omega arith }

pub returns : goal.returns
returns g c =
    let none : length c.loop-worker.worker-iterator.rest.items ≡ 0 = sym c.loop-worker.worker-iterator.rest.ok.0 ∙ c.in-None.ensures.steps.0 in
    let all = no_more (map (λ t. t.promise.begun.value) c.loop-worker.threads.items) c.loop-worker.worker-iterator.rest.items _ c.loop-worker.invariant.threads none in
    (c.run-given.ensures, subst (λ l. AllZip g.W.Labour.leaves l c.join_all.result.items) (all ∙ c.into_iter-worker-iterator.ensures.into_iter_gives.0) c.join_all.ensures)
