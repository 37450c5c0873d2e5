use Rattle.std.proofs.Common.{ap, ◌∙◌, subst, arith}
use Rattle.pq_io.specs.Links.{link_told}
use Rattle.door_queue.specs.Tallies.{Tallied}
use Rattle.server.specs.Receipts.{HasWorked}
use Rattle.server.proofs.worker.WorkerLabour.work.Goals as goal

pub serve_queued-drained-requires-clause-queue : goal.serve_queued-drained-requires-clause-queue
serve_queued-drained-requires-clause-queue g c = ap (λ w. w.tally.queue) c.self.view_is ∙ c.requires

-- its tally has the parts that it had
pub invariant_of-worker : goal.invariant_of-worker
invariant_of-worker g c =
    let same = ap (λ (t : Tallied _). t.parts) c.serve_queued-drained.ensures.served.tally in
    let some = c.self.invariant in
    omega arith

pub returns-clause-left : goal.returns-clause-left
returns-clause-left g c =
    let told = link_told g.K.Link.left g.K.Link.taken g.K.Link.read_faults g.K.Link.write_faults in
    let served = c.serve_queued-drained.ensures in
    let new = c.serve_queued-drained.new in
    subst (λ w. HasWorked told g.K.Link.tells w (record { client = new.service.service.client; tally = new.tally; receipts = new.receipts.items })) c.self.view_is
    (record { same_number = served.same_number; served = served.served })
