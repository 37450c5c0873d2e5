use Rattle.std.proofs.Common.{◌≡◌, ◌-◌, [], ◌∷◌, ◌++◌, length, sym, ap, ◌∙◌, arith, rules}
use Rattle.door_queue.specs.Tallies.{Tallied, tally_of}
use Rattle.write_history.specs.Passes.{PassView}
use Rattle.server.proofs.ReceiptLemmas.{map_more}
use Rattle.server.proofs.worker.hire.Goals as goal

pub split-part-requires-clause-queue : goal.split-part-requires-clause-queue
split-part-requires-clause-queue g c = ap (λ t. t.queue) c.loop-client.invariant.tally ∙ c.requires.queue

pub split-part-requires-clause-parts : goal.split-part-requires-clause-parts
split-part-requires-clause-parts g c =
    let rest = ap length c.in-Some.ensures.steps.0 in
    let count = c.loop-client.invariant.parts in
    let some = c.requires.parts in
    omega arith

pub loop-client-preserved : goal.loop-client-preserved
loop-client-preserved g c =
    let so_far = c.loop-client.invariant in
    let rest = ap length c.in-Some.ensures.steps.0 in
    let left = c.split-part.ensures.left in
    let fewer : c.split-part.new.tally.parts ≡ c.loop-client.tally.parts - 1 = ap (λ (t : Tallied _). t.parts) left in
    let count = so_far.parts in
    let some = c.requires.parts in
    record {
      next = tt;
      finite = tt;
      workers = map_more (λ (client : PassView). record { client = client; tally = tally_of c.args.queue.now 1; receipts = [] }) [] c.loop-client.workers.items _ c.loop-client.yielded c.in-Some.client so_far.workers
          (c.in_ok-push.ensures.items ∙ ap (λ w. c.loop-client.workers.items ++ w ∷ []) (c.new.ensures ∙ ap (λ t. record { client = c.in-Some.client; tally = t; receipts = [] }) c.split-part.ensures.right));
      tally = left ∙ ap (λ (t : Tallied _). record t { parts = c.loop-client.tally.parts - 1 }) so_far.tally ∙ ap (λ n. record c.args.tally.now { parts = n }) (sym fewer);
      parts = omega arith;
    }

-- each client has become a worker
pub returns-clause-tally : goal.returns-clause-tally
returns-clause-tally g c =
    let so_far = c.loop-client.invariant in
    let none : length c.loop-client.client-iterator.rest.items ≡ 0 = sym c.loop-client.client-iterator.rest.ok.0 ∙ c.in-None.ensures.steps.0 in
    let count = so_far.parts in
    let parts : c.loop-client.tally.parts ≡ c.args.tally.now.parts - length c.args.clients.items = omega arith in
    so_far.tally ∙ ap (λ n. record c.args.tally.now { parts = n }) parts
