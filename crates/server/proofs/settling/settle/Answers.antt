use Rattle.std.proofs.Common.{◌≡◌, ◌+◌, ◌++◌, ◌∷◌, [], length, map, sym, ap, ◌∙◌, subst, arith, length-append}
use Rattle.std.specs.List.{AllByRecursion}
use Rattle.std.proofs.lemmas.List.{map-append, length-map}
use Rattle.growing_history.proofs.ElementLemmas.{all_left}
use Rattle.pq_io.specs.Doors.{lists_of}
use Rattle.pq_io.specs.Links.{link_told}
use Rattle.door_queue.specs.Tallies.{Tallied}
use Rattle.server.specs.Receipts.{CameBack, HaveWorked, ServedTheRest, hired, joined_all}
use Rattle.server.proofs.ReceiptLemmas.{all_at, came_back, one_of_each, parts_grow, queue_joined, queues_of, whole_joined}
use Rattle.server.proofs.settling.settle.Goals as goal

pub part_all-requires-clause-workers : goal.part_all-requires-clause-workers
part_all-requires-clause-workers g c =
    let told = link_told g.K.Link.left g.K.Link.taken g.K.Link.read_faults g.K.Link.write_faults in
    let queue = c.args.queue.now in
    all_left (λ w. w.tally.queue ≡ queue) c.pop.new.self.items (c.in-Some.last ∷ [])
    (subst (AllByRecursion (λ w. w.tally.queue ≡ queue)) c.in-Some.ensures.items (queues_of told g.K.Link.tells queue c.requires.worked.1 c.args.workers.items c.requires.worked.4))

pub part_all-requires-clause-room : goal.part_all-requires-clause-room
part_all-requires-clause-room g c =
    let one = ap length c.requires.worked.2 in
    let all = ap length c.in-Some.ensures.items in
    let more = length-append c.pop.new.self.items (c.in-Some.last ∷ []) in
    let room = c.requires.room in
    omega arith

pub part_all-requires-clause-place : goal.part_all-requires-clause-place
part_all-requires-clause-place g c =
    let none = ap length c.requires.no_receipts in
    let all = ap length c.in-Some.ensures.items in
    let more = length-append c.pop.new.self.items (c.in-Some.last ∷ []) in
    let place = c.requires.place in
    omega arith

pub serve_rest-requires-clause-queue : goal.serve_rest-requires-clause-queue
serve_rest-requires-clause-queue g c =
    ap (λ (t : Tallied _). t.queue) c.part_all.ensures.tally ∙ queue_joined c.args.tally (map (λ w. w.tally) c.pop.new.self.items) ∙ c.requires.queue

pub serve_rest-requires-clause-same_queue : goal.serve_rest-requires-clause-same_queue
serve_rest-requires-clause-same_queue g c =
    let told = link_told g.K.Link.left g.K.Link.taken g.K.Link.read_faults g.K.Link.write_faults in
    let queue = c.args.queue.now in
    all_at (λ w. w.tally.queue ≡ queue) c.pop.new.self.items [] c.in-Some.last
    (subst (AllByRecursion (λ w. w.tally.queue ≡ queue)) c.in-Some.ensures.items (queues_of told g.K.Link.tells queue c.requires.worked.1 c.args.workers.items c.requires.worked.4))

pub serve_rest-requires-clause-parts : goal.serve_rest-requires-clause-parts
serve_rest-requires-clause-parts g c =
    let same = ap (λ (t : Tallied _). t.parts) c.part_all.ensures.tally in
    let grown = parts_grow c.args.tally (map (λ w. w.tally) c.pop.new.self.items) in
    let some = c.requires.parts in
    omega arith

pub serve_rest-requires-clause-whole : goal.serve_rest-requires-clause-whole
serve_rest-requires-clause-whole g c =
    let told = link_told g.K.Link.left g.K.Link.taken g.K.Link.read_faults g.K.Link.write_faults in
    let queue = c.args.queue.now in
    let front = c.pop.new.self.items in
    let last = c.in-Some.last in
    let starts = c.requires.worked.1 in
    ap (λ (t : Tallied _). t.parts + last.tally.parts) c.part_all.ensures.tally
    ∙ whole_joined told g.K.Link.tells queue c.args.tally starts front last (subst (HaveWorked told g.K.Link.tells (hired queue starts)) c.in-Some.ensures.items c.requires.worked.4)
    ∙ ap (λ n. c.args.tally.parts + n) (sym (ap length c.in-Some.ensures.items))
    ∙ c.requires.whole

-- there is room for one more
pub push_reserved-requires : goal.push_reserved-requires
push_reserved-requires g c =
    let none = ap length c.requires.no_receipts in
    let all = ap length c.in-Some.ensures.items in
    let more = length-append c.pop.new.self.items (c.in-Some.last ∷ []) in
    let front = length-map c.pop.new.self.items (λ w. w.receipts) in
    let lists = length-map c.part_all.new.receipts.items (λ list. list.items) in
    let parted = ap length c.part_all.ensures.receipts in
    let both = length-append (lists_of c.args.receipts.items) (map (λ w. w.receipts) c.pop.new.self.items) in
    let were = length-map c.args.receipts.items (λ list. list.items) in
    let same = c.part_all.ensures.place in
    let place = c.requires.place in
    omega arith

pub returns-clause-back : goal.returns-clause-back
returns-clause-back g c =
    let told = link_told g.K.Link.left g.K.Link.taken g.K.Link.read_faults g.K.Link.write_faults in
    let tells = g.K.Link.tells in
    let queue = c.args.queue.now in
    let front = c.pop.new.self.items in
    let last = c.in-Some.last in
    let starts = c.requires.worked.1 in
    let parted = c.part_all.ensures in
    let lists = lists_of c.part_all.new.receipts.items in
    let result = c.serve_rest.result.items in
    let new = c.serve_rest.new.tally in
    let whole : HaveWorked told tells (hired queue starts) (front ++ last ∷ []) = subst (HaveWorked told tells (hired queue starts)) c.in-Some.ensures.items c.requires.worked.4 in
    let lists_are : lists ≡ map (λ w. w.receipts) front = parted.receipts ∙ ap (λ l. lists_of l ++ map (λ w. w.receipts) front) c.requires.no_receipts in
    let first = c.requires.worked.0 in
    let clients_are = parted.clients ∙ ap (λ l. l ++ map (λ w. w.client) front) c.requires.worked.2 in
    let rest : ServedTheRest told tells last (first ∷ map (λ w. w.client) front) (joined_all c.args.tally (map (λ w. w.tally) front)) new result =
    subst (λ t. ServedTheRest told tells last (first ∷ map (λ w. w.client) front) t new result) parted.tally
    (subst (λ l. ServedTheRest told tells last l c.part_all.new.tally new result) clients_are c.serve_rest.ensures) in
    subst (λ l. CameBack told tells g.J.Declaring.joins c.args.tally.put l)
    (sym (ap lists_of c.push_reserved.ensures.items ∙ map-append (λ list. list.items) c.part_all.new.receipts.items (c.serve_rest.result ∷ [])))
    (came_back told tells queue g.N.Naming.history g.J.Declaring.joins first starts front last c.args.tally new lists result c.requires.worked.3 whole c.requires.taken lists_are rest)

-- a list of each worker came back
pub returns-clause-count : goal.returns-clause-count
returns-clause-count g c =
    let front = c.pop.new.self.items in
    let lists = lists_of c.part_all.new.receipts.items in
    let lists_are : lists ≡ map (λ w. w.receipts) front = c.part_all.ensures.receipts ∙ ap (λ l. lists_of l ++ map (λ w. w.receipts) front) c.requires.no_receipts in
    ap length (ap lists_of c.push_reserved.ensures.items ∙ map-append (λ list. list.items) c.part_all.new.receipts.items (c.serve_rest.result ∷ []))
    ∙ one_of_each (λ w. w.receipts) front c.in-Some.last lists c.serve_rest.result.items lists_are
    ∙ sym (ap length c.in-Some.ensures.items)
