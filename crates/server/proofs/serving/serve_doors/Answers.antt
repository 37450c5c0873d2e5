use Rattle.std.proofs.Common.{◌≡◌, ◌-◌, [], ◌∷◌, ◌++◌, length, ap, sym, ◌∙◌, subst, arith, rules}
use Rattle.std.specs.List.{AllByRecursion, AllZip}
use Rattle.pq_io.specs.Doors.{doors_told}
use Rattle.pq_io.specs.Links.{link_told}
use Rattle.door_queue.specs.Tallies.{Tallied}
use Rattle.server.specs.Receipts.{HasWorked, LinksCameBack}
use Rattle.server.specs.Endings.{EndedAs}
use Rattle.server.proofs.ReceiptLemmas.{IsWhole, hired_queues, is_whole, links_came_back, worked_count}
use Rattle.server.proofs.EndLemmas.{ended_as}
use Rattle.server.proofs.serving.serve_doors.Goals as goal

pub hire-requires-clause-queue : goal.hire-requires-clause-queue
hire-requires-clause-queue g c = ap (λ (t : Tallied _). t.queue) c.in-Ok-new.ensures

pub hire-requires-clause-parts : goal.hire-requires-clause-parts
hire-requires-clause-parts g c =
    let parts = ap (λ (t : Tallied _). t.parts) c.in-Ok-new.ensures in
    let counted = c.args.clients.ok in
    let few = c.args.clients.small in
    omega arith

pub accept_beside-served-requires-clause-queue : goal.accept_beside-served-requires-clause-queue
accept_beside-served-requires-clause-queue g c = λ κs lives. ap (λ (t : Tallied _). t.queue) c.in-Ok-hire.ensures.tally ∙ ap (λ (t : Tallied _). t.queue) c.in-Ok-new.ensures

pub accept_beside-served-requires-clause-parts : goal.accept_beside-served-requires-clause-parts
accept_beside-served-requires-clause-parts g c =
    let parts = ap (λ (t : Tallied _). t.parts) c.in-Ok-new.ensures in
    let left = ap (λ (t : Tallied _). t.parts) c.in-Ok-hire.ensures.tally in
    let counted = c.args.clients.ok in
    let few = c.args.clients.small in
    omega arith

-- each worker has a tally of the queue
pub accept_beside-served-requires-clause-workers : goal.accept_beside-served-requires-clause-workers
accept_beside-served-requires-clause-workers g c = λ κs lives.
    subst (AllByRecursion (λ w. w.tally.queue ≡ c.in-Ok-new.queue)) (sym c.in-Ok-hire.ensures.workers) (hired_queues g.row.D-Wire.Denot g.row.D-Wire-Receipt.Denot c.in-Ok-new.queue c.args.clients.items)

pub settle-receipts-requires-clause-queue : goal.settle-receipts-requires-clause-queue
settle-receipts-requires-clause-queue g c =
    let whole : IsWhole c.in-Ok-new.queue (length c.args.clients.items) c.accept_beside-served.new.tally =
    is_whole c.in-Ok-new.queue (length c.args.clients.items) _ _ c.in-Ok-new.tally c.hire.new.tally c.accept_beside-served.new.tally c.in-Ok-new.ensures c.in-Ok-hire.ensures.tally c.in-Ok-served.ensures.accepted in
    whole.same_queue

pub settle-receipts-requires-clause-parts : goal.settle-receipts-requires-clause-parts
settle-receipts-requires-clause-parts g c =
    let whole : IsWhole c.in-Ok-new.queue (length c.args.clients.items) c.accept_beside-served.new.tally =
    is_whole c.in-Ok-new.queue (length c.args.clients.items) _ _ c.in-Ok-new.tally c.hire.new.tally c.accept_beside-served.new.tally c.in-Ok-new.ensures c.in-Ok-hire.ensures.tally c.in-Ok-served.ensures.accepted in
    let parts = whole.parts in
    let counted = c.args.clients.ok in
    let few = c.args.clients.small in
    omega arith

pub settle-receipts-requires-clause-taken : goal.settle-receipts-requires-clause-taken
settle-receipts-requires-clause-taken g c =
    let whole : IsWhole c.in-Ok-new.queue (length c.args.clients.items) c.accept_beside-served.new.tally =
    is_whole c.in-Ok-new.queue (length c.args.clients.items) _ _ c.in-Ok-new.tally c.hire.new.tally c.accept_beside-served.new.tally c.in-Ok-new.ensures c.in-Ok-hire.ensures.tally c.in-Ok-served.ensures.accepted in
    whole.taken

-- the client that declared the joins stands alone among those whom the last worker's is to meet
pub push_reserved-requires : goal.push_reserved-requires
push_reserved-requires g c =
    let counted = c.args.clients.ok in
    let some = c.requires.some in
    let none = c.in-Ok.ensures.len in
    let room = c.in-Ok.ensures.capacity in
    omega arith

pub settle-receipts-requires-clause-worked : goal.settle-receipts-requires-clause-worked
settle-receipts-requires-clause-worked g c =
    (c.args.first, c.args.clients.items, c.push_reserved.ensures.items ∙ ap (λ l. l ++ c.args.first ∷ []) c.in-Ok.ensures.items, c.requires.staff, subst (λ l. AllZip (HasWorked (link_told g.D.Wire.Link.left g.D.Wire.Link.taken g.D.Wire.Link.read_faults g.D.Wire.Link.write_faults) g.D.Wire.Link.tells) l c.in-Ok-served.workers.items) c.in-Ok-hire.ensures.workers c.in-Ok-served.ensures.worked)

-- there are as many workers as clients
pub settle-receipts-requires-clause-whole : goal.settle-receipts-requires-clause-whole
settle-receipts-requires-clause-whole g c =
    let whole : IsWhole c.in-Ok-new.queue (length c.args.clients.items) c.accept_beside-served.new.tally =
    is_whole c.in-Ok-new.queue (length c.args.clients.items) _ _ c.in-Ok-new.tally c.hire.new.tally c.accept_beside-served.new.tally c.in-Ok-new.ensures c.in-Ok-hire.ensures.tally c.in-Ok-served.ensures.accepted in
    let parts = whole.parts in
    let count = worked_count (link_told g.D.Wire.Link.left g.D.Wire.Link.taken g.D.Wire.Link.read_faults g.D.Wire.Link.write_faults) g.D.Wire.Link.tells c.in-Ok-new.queue c.args.clients.items c.in-Ok-served.workers.items
    (subst (λ l. AllZip (HasWorked (link_told g.D.Wire.Link.left g.D.Wire.Link.taken g.D.Wire.Link.read_faults g.D.Wire.Link.write_faults) g.D.Wire.Link.tells) l c.in-Ok-served.workers.items) c.in-Ok-hire.ensures.workers c.in-Ok-served.ensures.worked) in
    let counted = c.args.clients.ok in
    let few = c.args.clients.small in
    omega arith

pub settle-receipts-requires-clause-some : goal.settle-receipts-requires-clause-some
settle-receipts-requires-clause-some g c =
    let count = worked_count (link_told g.D.Wire.Link.left g.D.Wire.Link.taken g.D.Wire.Link.read_faults g.D.Wire.Link.write_faults) g.D.Wire.Link.tells c.in-Ok-new.queue c.args.clients.items c.in-Ok-served.workers.items
    (subst (λ l. AllZip (HasWorked (link_told g.D.Wire.Link.left g.D.Wire.Link.taken g.D.Wire.Link.read_faults g.D.Wire.Link.write_faults) g.D.Wire.Link.tells) l c.in-Ok-served.workers.items) c.in-Ok-hire.ensures.workers c.in-Ok-served.ensures.worked) in
    let counted = c.args.clients.ok in
    let some = c.requires.some in
    omega arith

pub settle-receipts-requires-clause-room : goal.settle-receipts-requires-clause-room
settle-receipts-requires-clause-room g c =
    let count = worked_count (link_told g.D.Wire.Link.left g.D.Wire.Link.taken g.D.Wire.Link.read_faults g.D.Wire.Link.write_faults) g.D.Wire.Link.tells c.in-Ok-new.queue c.args.clients.items c.in-Ok-served.workers.items
    (subst (λ l. AllZip (HasWorked (link_told g.D.Wire.Link.left g.D.Wire.Link.taken g.D.Wire.Link.read_faults g.D.Wire.Link.write_faults) g.D.Wire.Link.tells) l c.in-Ok-served.workers.items) c.in-Ok-hire.ensures.workers c.in-Ok-served.ensures.worked) in
    let counted = c.args.clients.ok in
    let room = c.in-Ok.ensures.capacity in
    let same = c.push_reserved.ensures.capacity in
    omega arith

pub settle-receipts-requires-clause-place : goal.settle-receipts-requires-clause-place
settle-receipts-requires-clause-place g c =
    let count = worked_count (link_told g.D.Wire.Link.left g.D.Wire.Link.taken g.D.Wire.Link.read_faults g.D.Wire.Link.write_faults) g.D.Wire.Link.tells c.in-Ok-new.queue c.args.clients.items c.in-Ok-served.workers.items
    (subst (λ l. AllZip (HasWorked (link_told g.D.Wire.Link.left g.D.Wire.Link.taken g.D.Wire.Link.read_faults g.D.Wire.Link.write_faults) g.D.Wire.Link.tells) l c.in-Ok-served.workers.items) c.in-Ok-hire.ensures.workers c.in-Ok-served.ensures.worked) in
    let counted = c.args.clients.ok in
    let place = c.in-Ok-with_capacity.ensures.capacity in
    omega arith

-- the doors ended, and took back the receipts of all links that they gave
pub returns : goal.returns
returns g c =
    let told = link_told g.D.Wire.Link.left g.D.Wire.Link.taken g.D.Wire.Link.read_faults g.D.Wire.Link.write_faults in
    let tells = g.D.Wire.Link.tells in
    let tell = doors_told g.D.Doors.held g.D.Doors.returned g.D.Doors.opened g.D.Doors.faults in
    let old = c.args.doors.now in
    let between = c.accept_beside-served.new.doors in
    let new = c.take_back.new.self in
    let served = c.in-Ok-served.ensures in
    let workers = length c.args.clients.items in
    let none : c.hire.new.tally.put ≡ [] = ap (λ (t : Tallied _). t.put) c.in-Ok-hire.ensures.tally ∙ ap (λ (t : Tallied _). t.put) c.in-Ok-new.ensures in
    let count = worked_count told tells c.in-Ok-new.queue c.args.clients.items c.in-Ok-served.workers.items
    (subst (λ l. AllZip (HasWorked told tells) l c.in-Ok-served.workers.items) c.in-Ok-hire.ensures.workers served.worked) in
    let back : LinksCameBack told tells workers g.J.Declaring.joins (tell old) (tell new) =
    links_came_back told tells workers g.J.Declaring.joins (tell old) (tell new) (g.D.Doors.held between) _ _ _
    served.accepted none c.take_back.ensures.same_held (c.settle-receipts.ensures.count ∙ count) c.settle-receipts.ensures.back c.take_back.ensures.returned in
    record {
      ended = subst (EndedAs told tells tell workers g.J.Declaring.joins c.args.address.now old new) (sym c.ended_by.ensures)
          (ended_as told tells tell workers g.J.Declaring.joins c.args.address.now old between new c.in-Ok-served.accepted
          served.closed served.opened served.cause c.take_back.ensures.same_held c.take_back.ensures.same_opened c.take_back.ensures.same_faults back);
    }
