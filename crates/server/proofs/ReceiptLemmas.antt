-- Links that are served one after another, and what comes back of all.
use Rattle.std.proofs.Common.{◌≡◌, ◌≢◌, ◌↔◌, ℕ, zero, suc, ◌+◌, ◌-◌, ◌≤◌, List, [], ◌∷◌, ◌++◌, length, map, Some, Option, refl, sym, ap, ◌∙◌, subst, arith, append_assoc, append-nil, length-append}
use Rattle.std.specs.Prelude.{slice_get, option_map, IfSome, is_some, true, ⊤}
use Rattle.std.specs.List.{AllByRecursion, AllZip}
use Rattle.std.proofs.lemmas.List.{map-append, length-map}
use Rattle.std.proofs.lemmas.List.Elements.{length_all_zip}
use Rattle.std.proofs.lemmas.Option.{get_or_from_slice_get, slice_get_within}
use Rattle.atomic_table.specs.Seated.{TableId}
use Rattle.semantics.specs.Texts.{Text}
use Rattle.semantics.specs.Joins.{Join}
use Rattle.semantics.specs.Histories.{History, IsPrefix}
use Rattle.protocol.specs.Session.{Served, no_memory, read_fault, write_fault}
use Rattle.pq_io.specs.Doors.{DoorsTold}
use Rattle.pq_io.specs.Faults.{Rose}
use Rattle.pq_io.specs.Links.{LinkTold}
use Rattle.pq_io.specs.Streams.{Gave, Took}
use Rattle.pq_io.proofs.StreamLemmas.{Gave-nothing, Took-nothing}
use Rattle.growing_history.proofs.ElementLemmas.{all_then}
use Rattle.session.specs.declared.end.End.{End}
use Rattle.session.specs.declared.end.End.TheVariants.{Closed, Quit, Long, ReadFault, WriteFault, Spent, OutOfMemory}
use Rattle.session.specs.Ends.{plain_end}
use Rattle.door_queue.specs.Tallies.{Tallied, EachOnce, all_parts, joined, taken_out, tally_of}
use Rattle.write_history.specs.Entries.{IsRecorded, written_by}
use Rattle.write_history.specs.Passes.{HistoryId, PassView, own}
use Rattle.pequod_cache.specs.Meeting.{HasAllOf}
use Rattle.server.specs.Staffs.{AreStaff, IsIdle}
use Rattle.server.specs.Receipts.{WasServed, all_of, Shift, WorkerView, ServedInTurn, IsShift, CameBack, HasServed, HasWorked, HaveWorked, ServedTheRest, LinksCameBack, HasAccepted, joined_all, hired}

-- ---- one link

is_read_fault : (end : End) → plain_end end ≡ read_fault → end ≡ ReadFault
is_read_fault Closed is = absurd (cc)
is_read_fault Quit is = absurd (cc)
is_read_fault Long is = absurd (cc)
is_read_fault ReadFault is = refl
is_read_fault WriteFault is = absurd (cc)
is_read_fault Spent is = absurd (cc)
is_read_fault (OutOfMemory _) is = absurd (cc)

is_write_fault : (end : End) → plain_end end ≡ write_fault → end ≡ WriteFault
is_write_fault Closed is = absurd (cc)
is_write_fault Quit is = absurd (cc)
is_write_fault Long is = absurd (cc)
is_write_fault ReadFault is = absurd (cc)
is_write_fault WriteFault is = refl
is_write_fault Spent is = absurd (cc)
is_write_fault (OutOfMemory _) is = absurd (cc)

is_no_memory : (end : End) → plain_end end ≡ no_memory → end ≡ OutOfMemory tt
is_no_memory Closed is = absurd (cc)
is_no_memory Quit is = absurd (cc)
is_no_memory Long is = absurd (cc)
is_no_memory ReadFault is = absurd (cc)
is_no_memory WriteFault is = absurd (cc)
is_no_memory Spent is = absurd (cc)
is_no_memory (OutOfMemory _) is = refl

-- what `serve_link` says, where its want of memory is told, and nothing else as one
pub was_served : (end : End) (client : ℕ) (before after : History) (old new : LinkTold) →
    ((bytes : Text) × (written : Text) × Gave old.left new.left bytes × Took old.taken new.taken written
    × Served (plain_end end) (record { before = before; after = after; client = client; bytes = bytes; written = written; left = new.left })) →
    old.read_faults ≤ new.read_faults → (end ≢ ReadFault → new.read_faults ≡ old.read_faults) → (end ≡ ReadFault → Rose old.read_faults new.read_faults) →
    old.write_faults ≤ new.write_faults → (end ≢ WriteFault → new.write_faults ≡ old.write_faults) → (end ≡ WriteFault → Rose old.write_faults new.write_faults) →
    ((is_some new.refused ≡ true) ↔ (end ≡ OutOfMemory tt)) → WasServed client before after old new
was_served end client before after old new served reads_later reads_kept read_rose writes_later writes_kept write_rose refused = record {
  ending = plain_end end;
  bytes = served.0;
  written = served.1;
  gave = served.2;
  took = served.3;
  served = served.4;
  reads = record {
    later = reads_later;
    kept = λ other. reads_kept (λ is. other (ap plain_end is));
    failed = λ is. read_rose (is_read_fault end is);
  };
  writes = record {
    later = writes_later;
    kept = λ other. writes_kept (λ is. other (ap plain_end is));
    failed = λ is. write_rose (is_write_fault end is);
  };
  refused = (λ tells. ap plain_end (refused.0 tells), λ is. refused.1 (is_no_memory end is));
}

-- a link for which no memory is found at first
pub untouched : (client : ℕ) (view : History) (told : LinkTold) (refused : Option ⊤) → is_some refused ≡ true → WasServed client view view told (record told { refused = refused })
untouched client view told refused some = record {
  ending = no_memory;
  bytes = [];
  written = [];
  gave = Gave-nothing told.left;
  took = Took-nothing told.taken;
  served = (refl, refl, refl);
  reads = record { later = omega arith; kept = λ other. refl; failed = λ is. absurd (cc) };
  writes = record { later = omega arith; kept = λ other. refl; failed = λ is. absurd (cc) };
  refused = (λ tells. refl, λ is. some);
}

-- ---- lists

all_of-append : {A : Type 0} (xs ys : List (List A)) → all_of (xs ++ ys) ≡ all_of xs ++ all_of ys
all_of-append [] ys = refl
all_of-append (x ∷ xs) ys = ap (λ l. x ++ l) (all_of-append xs ys) ∙ sym (append_assoc x (all_of xs) (all_of ys))

-- each element has what all have
pub all_get : {A : Type 0} (P : A → Type 0) (xs : List A) (i : ℕ) (x : A) → AllByRecursion P xs → slice_get xs i ≡ Some x → P x
all_get P [] i x all at = absurd (cc)
all_get P (y ∷ ys) zero x all at = let is : y ≡ x = cc in subst P is all.0
all_get P (y ∷ ys) (suc i) x all at = all_get P ys i x all.1 at

-- the first one, and those behind it
pub all_next : {A : Type 0} (P : A → Type 0) (xs : List A) (x : A) (ys : List A) → xs ≡ x ∷ ys → AllByRecursion P xs → P x × AllByRecursion P ys
all_next P xs x ys is all = subst (AllByRecursion P) is all

pub all_push : {A : Type 0} (P : A → Type 0) (xs : List A) (x : A) → AllByRecursion P xs → P x → AllByRecursion P (xs ++ x ∷ [])
all_push P [] x all one = (one, tt)
all_push P (y ∷ ys) x all one = (all.0, all_push P ys x all.1 one)

-- what stands behind the first ones
pub all_at : {A : Type 0} (P : A → Type 0) (xs ys : List A) (y : A) → AllByRecursion P (xs ++ y ∷ ys) → P y
all_at P [] ys y all = all.0
all_at P (x ∷ xs) ys y all = all_at P xs ys y all.1

pub all_mapped : {A B : Type 0} (f : A → B) (P : B → Type 0) (xs : List A) → AllByRecursion P (map f xs) → AllByRecursion (λ x. P (f x)) xs
all_mapped f P [] all = tt
all_mapped f P (x ∷ xs) all = (all.0, all_mapped f P xs all.1)

-- one more of each list
pub zip_push : {A B : Type 0} (R : A → B → Type 0) (xs : List A) (ys : List B) (x : A) (y : B) → AllZip R xs ys → R x y → AllZip R (xs ++ x ∷ []) (ys ++ y ∷ [])
zip_push R [] [] x y zip one = (one, tt)
zip_push R [] (b ∷ ys) x y zip one = absurd zip
zip_push R (a ∷ xs) [] x y zip one = absurd zip
zip_push R (a ∷ xs) (b ∷ ys) x y zip one = (zip.0, zip_push R xs ys x y zip.1 one)

-- another last element
zip_last : {A B : Type 0} (R : A → B → Type 0) (xs : List A) (ys : List B) (y z : B) → ((x : A) → R x y → R x z) → AllZip R xs (ys ++ y ∷ []) → AllZip R xs (ys ++ z ∷ [])
zip_last R [] [] y z gives zip = absurd zip
zip_last R [] (b ∷ ys) y z gives zip = absurd zip
zip_last R (x ∷ []) [] y z gives zip = (gives x zip.0, tt)
zip_last R (x ∷ a ∷ xs) [] y z gives zip = absurd zip.1
zip_last R (x ∷ xs) (b ∷ ys) y z gives zip = (zip.0, zip_last R xs ys y z gives zip.1)

-- nothing is left
pub no_more : {A : Type 0} (xs ys all : List A) → xs ++ ys ≡ all → length ys ≡ 0 → xs ≡ all
no_more xs [] all is none = sym (append-nil xs) ∙ is
no_more xs (y ∷ ys) all is none = absurd (omega arith)

-- one more behind a list and what others were made into
pub map_more : {A B : Type 0} (f : A → B) (first now next : List B) (xs : List A) (x : A) → now ≡ first ++ map f xs → next ≡ now ++ f x ∷ [] → next ≡ first ++ map f (xs ++ x ∷ [])
map_more f first now next xs x was more =
    more ∙ ap (λ l. l ++ f x ∷ []) was ∙ append_assoc first (map f xs) (f x ∷ []) ∙ ap (λ l. first ++ l) (sym (map-append f xs (x ∷ [])))

-- as many lists as elements, where there is one of each of the first ones and one more
pub one_of_each : {W R : Type 0} (f : W → List R) (front : List W) (last : W) (lists : List (List R)) (list : List R) → lists ≡ map f front → length (lists ++ list ∷ []) ≡ length (front ++ last ∷ [])
one_of_each f front last lists list are =
    let same : length lists ≡ length front = ap length are ∙ length-map front f in
    let more_lists = length-append lists (list ∷ []) in
    let more_elements = length-append front (last ∷ []) in
    omega arith

-- ---- a tally to which others are joined

module _ {K : Type 0} where
  pub joined_all_push : (t : Tallied K) (us : List (Tallied K)) (u : Tallied K) → joined_all t (us ++ u ∷ []) ≡ joined (joined_all t us) u
  joined_all_push t [] u = refl
  joined_all_push t (x ∷ us) u = joined_all_push (joined t x) us u

  -- one more is joined
  pub joined_more : {W : Type 0} (f : W → Tallied K) (first now next : Tallied K) (ws : List W) (w : W) → now ≡ joined_all first (map f ws) → next ≡ joined now (f w) → next ≡ joined_all first (map f (ws ++ w ∷ []))
  joined_more f first now next ws w was more =
      more ∙ ap (λ (t : Tallied K). joined t (f w)) was ∙ sym (joined_all_push first (map f ws) (f w)) ∙ ap (λ (l : List (Tallied K)). joined_all first l) (sym (map-append f ws (w ∷ [])))

  -- the queue stays, and no part goes
  pub queue_joined : (t : Tallied K) (us : List (Tallied K)) → (joined_all t us).queue ≡ t.queue
  queue_joined t [] = refl
  queue_joined t (u ∷ us) = queue_joined (joined t u) us

  pub parts_grow : (t : Tallied K) (us : List (Tallied K)) → t.parts ≤ (joined_all t us).parts
  parts_grow t [] = omega arith
  parts_grow t (u ∷ us) = let rest = parts_grow (joined t u) us in omega arith

-- a tally of which parts were split off for the workers, and with which the links of doors were put
pub record IsWhole {K : Type 0} (queue : TableId) (count : ℕ) (t : Tallied K) : Type 0 where
  pub same_queue : t.queue ≡ queue
  pub parts : t.parts ≡ all_parts - count
  pub taken : t.taken ≡ []

pub is_whole : {K : Type 0} (queue : TableId) (count : ℕ) (held held_now : Option (List K)) (made parted now : Tallied K) →
    made ≡ tally_of queue all_parts → parted ≡ record made { parts = made.parts - count } → HasAccepted held held_now parted now → IsWhole queue count now
is_whole {K} queue count held held_now made parted now is left accepted = record {
  same_queue = ap (λ (t : Tallied K). t.queue) accepted.tally ∙ ap (λ (t : Tallied K). t.queue) left ∙ ap (λ (t : Tallied K). t.queue) is;
  parts = ap (λ (t : Tallied K). t.parts) accepted.tally ∙ ap (λ (t : Tallied K). t.parts) left ∙ ap (λ (t : Tallied K). t.parts - count) is;
  taken = ap (λ (t : Tallied K). t.taken) accepted.tally ∙ ap (λ (t : Tallied K). t.taken) left ∙ ap (λ (t : Tallied K). t.taken) is;
}

-- each worker that is hired has a tally of the queue
pub hired_queues : (K R : Type 0) (queue : TableId) (clients : List PassView) → AllByRecursion (λ (w : WorkerView K R). w.tally.queue ≡ queue) (hired queue clients)
hired_queues K R queue [] = tt
hired_queues K R queue (c ∷ cs) = (refl, hired_queues K R queue cs)

-- the history begins with what the client had seen, and has of its number nothing else
record IsKept (history : History) (client : PassView) : Type 0 where
  within : IsPrefix client.view history
  all : written_by client.number history ≡ own client

module _ {K R : Type 0} (told : K → LinkTold) (tells : R → LinkTold) where
  -- ---- links in turn

  in_turn_on : (client : ℕ) (v0 v1 v2 : History) (ks ls : List K) (rs ss : List R) →
      ServedInTurn told tells client v0 v1 ks rs → ServedInTurn told tells client v1 v2 ls ss → ServedInTurn told tells client v0 v2 (ks ++ ls) (rs ++ ss)
  in_turn_on client v0 v1 v2 [] ls [] ss first then = subst (λ v. ServedInTurn told tells client v v2 ls ss) first then
  in_turn_on client v0 v1 v2 [] ls (r ∷ rs) ss first then = absurd first
  in_turn_on client v0 v1 v2 (k ∷ ks) ls [] ss first then = absurd first
  in_turn_on client v0 v1 v2 (k ∷ ks) ls (r ∷ rs) ss first then = (first.0, first.1, in_turn_on client first.0 v1 v2 ks ls rs ss first.2 then)

  -- nothing was served yet
  pub served_none : (client : ℕ) (view : History) (t : Tallied K) (rs : List R) → HasServed told tells client view view t t rs rs
  served_none client view t rs = record {
    links = [];
    more = [];
    tally = ap (λ (l : List K). record t { taken = l }) (sym (append-nil t.taken));
    returned = sym (append-nil rs);
    in_turn = refl;
  }

  served_on : (client : ℕ) (v0 v1 v2 : History) (t0 t1 t2 : Tallied K) (r0 r1 r2 : List R) →
      HasServed told tells client v0 v1 t0 t1 r0 r1 → HasServed told tells client v1 v2 t1 t2 r1 r2 → HasServed told tells client v0 v2 t0 t2 r0 r2
  served_on client v0 v1 v2 t0 t1 t2 r0 r1 r2 first then = record {
    links = first.links ++ then.links;
    more = first.more ++ then.more;
    tally = then.tally ∙ ap (λ (t : Tallied K). record t { taken = t.taken ++ then.links }) first.tally ∙ ap (λ (l : List K). record t0 { taken = l }) (append_assoc t0.taken first.links then.links);
    returned = then.returned ∙ ap (λ l. l ++ then.more) first.returned ∙ append_assoc r0 first.more then.more;
    in_turn = in_turn_on client v0 v1 v2 first.links then.links first.more then.more first.in_turn then.in_turn;
  }

  -- a link more was taken and served
  pub served_more : (client number : ℕ) (v0 v1 v2 : History) (t0 t1 t2 : Tallied K) (r0 r1 r2 : List R) (k : K) (r : R) → number ≡ client →
      HasServed told tells client v0 v1 t0 t1 r0 r1 → t2 ≡ taken_out t1 k → WasServed number v1 v2 (told k) (tells r) → r2 ≡ r1 ++ r ∷ [] → HasServed told tells client v0 v2 t0 t2 r0 r2
  served_more client number v0 v1 v2 t0 t1 t2 r0 r1 r2 k r same so_far taken was returned =
      served_on client v0 v1 v2 t0 t1 t2 r0 r1 r2 so_far (record {
        links = k ∷ [];
        more = r ∷ [];
        tally = taken;
        returned = returned;
        in_turn = (v2, subst (λ (n : ℕ). WasServed n v1 v2 (told k) (tells r)) same was, refl);
      })

  -- ---- workers that have ended

  -- the worker's shift
  abbrev pub shift_of : PassView → WorkerView K R → Shift K R
  shift_of start w = record { before = start.view; after = w.client.view; links = w.tally.taken; receipts = w.receipts }

  abbrev pub shifts_of : List PassView → List (WorkerView K R) → List (Shift K R)
  shifts_of [] ws = []
  shifts_of (s ∷ ss) [] = []
  shifts_of (s ∷ ss) (w ∷ ws) = shift_of s w ∷ shifts_of ss ws

  -- a worker as it is hired
  abbrev pub fresh : TableId → PassView → WorkerView K R
  fresh queue client = record { client = client; tally = tally_of queue 1; receipts = [] }

  receipts_of : (queue : TableId) (ss : List PassView) (ws : List (WorkerView K R)) → HaveWorked told tells (hired queue ss) ws → map (λ w. w.receipts) ws ≡ map (λ s. s.receipts) (shifts_of ss ws)
  receipts_of queue [] [] zip = refl
  receipts_of queue [] (w ∷ ws) zip = absurd zip
  receipts_of queue (s ∷ ss) [] zip = absurd zip
  receipts_of queue (s ∷ ss) (w ∷ ws) zip = ap (λ l. w.receipts ∷ l) (receipts_of queue ss ws zip.1)

  links_of : (queue : TableId) (ss : List PassView) (ws : List (WorkerView K R)) → HaveWorked told tells (hired queue ss) ws →
      all_of (map (λ w. w.tally.taken) ws) ≡ all_of (map (λ s. s.links) (shifts_of ss ws))
  links_of queue [] [] zip = refl
  links_of queue [] (w ∷ ws) zip = absurd zip
  links_of queue (s ∷ ss) [] zip = absurd zip
  links_of queue (s ∷ ss) (w ∷ ws) zip = ap (λ l. w.tally.taken ++ l) (links_of queue ss ws zip.1)

  -- the shift at a place, by the client and the worker there
  pub record IsAt (queue : TableId) (ss : List PassView) (ws : List (WorkerView K R)) (i : ℕ) (shift : Shift K R) : Type 0 where
    pub start : PassView
    pub worker : WorkerView K R
    pub client_at : slice_get ss i ≡ Some start
    pub worker_at : slice_get ws i ≡ Some worker
    pub is : shift ≡ shift_of start worker
    pub worked : HasWorked told tells (fresh queue start) worker

  shift_at : (queue : TableId) (ss : List PassView) (ws : List (WorkerView K R)) (i : ℕ) (shift : Shift K R) → HaveWorked told tells (hired queue ss) ws →
      slice_get (shifts_of ss ws) i ≡ Some shift → IsAt queue ss ws i shift
  shift_at queue [] ws i shift zip at = absurd (cc)
  shift_at queue (s ∷ ss) [] i shift zip at = absurd (cc)
  shift_at queue (s ∷ ss) (w ∷ ws) zero shift zip at = record { start = s; worker = w; client_at = refl; worker_at = refl; is = (let is : shift_of s w ≡ shift = cc in sym is); worked = zip.0 }
  shift_at queue (s ∷ ss) (w ∷ ws) (suc i) shift zip at =
      let there = shift_at queue ss ws i shift zip.1 at in
      record { start = there.start; worker = there.worker; client_at = there.client_at; worker_at = there.worker_at; is = there.is; worked = there.worked }

  -- what a worker took and gave back, in turn
  worked_in_turn : (queue : TableId) (s : PassView) (w : WorkerView K R) → HasWorked told tells (fresh queue s) w → ServedInTurn told tells s.number s.view w.client.view w.tally.taken w.receipts
  worked_in_turn queue s w worked =
      let taken : w.tally.taken ≡ worked.served.links = ap (λ (t : Tallied K). t.taken) worked.served.tally in
      subst (λ (l : List K). ServedInTurn told tells s.number s.view w.client.view l w.receipts) (sym taken)
      (subst (λ (l : List R). ServedInTurn told tells s.number s.view w.client.view worked.served.links l) (sym worked.served.returned) worked.served.in_turn)

  is_shift : (queue : TableId) (history_id : HistoryId) (joins : List Join) (first : PassView) (ss : List PassView) (ws : List (WorkerView K R)) (history : History) (i : ℕ) (shift : Shift K R) →
      AreStaff history_id joins first ss → AllByRecursion (λ w. IsKept history w.client) ws → IsAt queue ss ws i shift → IsShift told tells joins history (i + 1) shift
  is_shift queue history_id joins first ss ws history i shift staff kept there =
      let idle : IsIdle history_id (i + 1) (own first) there.start =
      subst (IsIdle history_id (i + 1) (own first)) (get_or_from_slice_get ss i there.start there.start there.client_at) (staff.alone.each i there.start (slice_get_within ss i there.start there.client_at)) in
      let has : IsKept history there.worker.client = all_get (λ (w : WorkerView K R). IsKept history w.client) ws i there.worker kept there.worker_at in
      let number : there.worker.client.number ≡ i + 1 = there.worked.same_number ∙ idle.numbered in
      subst (λ (s : Shift K R). IsShift told tells joins history (i + 1) s) (sym there.is)
      (record {
        begins = subst (λ (h : History). IsPrefix h there.start.view) staff.wrote idle.begins;
        idle = ap (λ (n : ℕ). written_by n there.start.view) (sym idle.numbered) ∙ idle.none;
        in_turn = subst (λ (n : ℕ). ServedInTurn told tells n there.start.view there.worker.client.view there.worker.tally.taken there.worker.receipts) idle.numbered
            (worked_in_turn queue there.start there.worker there.worked);
        within = has.within;
        all = subst (λ (n : ℕ). written_by n history ≡ written_by n there.worker.client.view) number has.all;
      })

  -- there are as many shifts as workers
  shifts_count : (queue : TableId) (ss : List PassView) (ws : List (WorkerView K R)) → HaveWorked told tells (hired queue ss) ws → length (shifts_of ss ws) ≡ length ss
  shifts_count queue [] ws zip = refl
  shifts_count queue (s ∷ ss) [] zip = absurd zip
  shifts_count queue (s ∷ ss) (w ∷ ws) zip = ap suc (shifts_count queue ss ws zip.1)

  -- ---- their tallies as one

  parts_joined : (queue : TableId) (t : Tallied K) (ss : List PassView) (ws : List (WorkerView K R)) → HaveWorked told tells (hired queue ss) ws → (joined_all t (map (λ w. w.tally) ws)).parts ≡ t.parts + length ws
  parts_joined queue t [] [] zip = omega arith
  parts_joined queue t [] (w ∷ ws) zip = absurd zip
  parts_joined queue t (s ∷ ss) [] zip = absurd zip
  parts_joined queue t (s ∷ ss) (w ∷ ws) zip =
      let one : w.tally.parts ≡ 1 = ap (λ (u : Tallied K). u.parts) zip.0.served.tally in
      let rest = parts_joined queue (joined t w.tally) ss ws zip.1 in
      omega arith

  put_joined : (queue : TableId) (t : Tallied K) (ss : List PassView) (ws : List (WorkerView K R)) → HaveWorked told tells (hired queue ss) ws → (joined_all t (map (λ w. w.tally) ws)).put ≡ t.put
  put_joined queue t [] [] zip = refl
  put_joined queue t [] (w ∷ ws) zip = absurd zip
  put_joined queue t (s ∷ ss) [] zip = absurd zip
  put_joined queue t (s ∷ ss) (w ∷ ws) zip =
      let none : w.tally.put ≡ [] = ap (λ (u : Tallied K). u.put) zip.0.served.tally in
      put_joined queue (joined t w.tally) ss ws zip.1 ∙ ap (λ (l : List K). t.put ++ l) none ∙ append-nil t.put

  taken_joined : (t : Tallied K) (ws : List (WorkerView K R)) → (joined_all t (map (λ w. w.tally) ws)).taken ≡ t.taken ++ all_of (map (λ w. w.tally.taken) ws)
  taken_joined t [] = sym (append-nil t.taken)
  taken_joined t (w ∷ ws) = taken_joined (joined t w.tally) ws ∙ append_assoc t.taken w.tally.taken (all_of (map (λ w. w.tally.taken) ws))

  -- ---- what comes back of all

  -- the last worker, when it has served the rest
  abbrev pub rested : (last : WorkerView K R) (others : List PassView) (old new : Tallied K) (result : List R) → ServedTheRest told tells last others old new result → WorkerView K R
  rested last others old new result rest = record {
    client = record last.client { view = rest.seen };
    tally = record last.tally { taken = last.tally.taken ++ rest.served.links };
    receipts = result;
  }

  still_worked : (s last : WorkerView K R) (others : List PassView) (old new : Tallied K) (result : List R) (rest : ServedTheRest told tells last others old new result) →
      HasWorked told tells s last → HasWorked told tells s (rested last others old new result rest)
  still_worked s last others old new result rest worked = record {
    same_number = worked.same_number;
    served = served_on s.client.number s.client.view last.client.view rest.seen s.tally last.tally (record last.tally { taken = last.tally.taken ++ rest.served.links }) s.receipts last.receipts result
        worked.served (record {
          links = rest.served.links;
          more = rest.served.more;
          tally = refl;
          returned = rest.served.returned;
          in_turn = subst (λ (n : ℕ). ServedInTurn told tells n last.client.view rest.seen rest.served.links rest.served.more) worked.same_number rest.served.in_turn;
        });
  }

  pub came_back : (queue : TableId) (history_id : HistoryId) (joins : List Join) (first : PassView) (starts : List PassView) (front : List (WorkerView K R)) (last : WorkerView K R) (t new : Tallied K) (lists : List (List R)) (result : List R) →
      AreStaff history_id joins first starts → HaveWorked told tells (hired queue starts) (front ++ last ∷ []) → t.taken ≡ [] → lists ≡ map (λ w. w.receipts) front →
      ServedTheRest told tells last (first ∷ map (λ w. w.client) front) (joined_all t (map (λ w. w.tally) front)) new result →
      CameBack told tells joins t.put (lists ++ result ∷ [])
  came_back queue history_id joins first starts front last t new lists result staff worked none lists_are rest =
      let old = joined_all t (map (λ w. w.tally) front) in
      let others : List PassView = first ∷ map (λ w. w.client) front in
      let end = rested last others old new result rest in
      let all : List (WorkerView K R) = front ++ end ∷ [] in
      let zip : HaveWorked told tells (hired queue starts) all =
      zip_last (HasWorked told tells) (hired queue starts) front last end (λ s h. still_worked s last others old new result rest h) worked in
      let whole : joined_all t (map (λ w. w.tally) all) ≡ joined old end.tally =
      ap (λ l. joined_all t l) (map-append (λ w. w.tally) front (end ∷ [])) ∙ joined_all_push t (map (λ w. w.tally) front) end.tally in
      let put : new.put ≡ t.put = ap (λ (u : Tallied K). u.put) rest.served.tally ∙ sym (ap (λ (u : Tallied K). u.put) whole) ∙ put_joined queue t starts all zip in
      let taken : new.taken ≡ all_of (map (λ w. w.tally.taken) all) =
      ap (λ (u : Tallied K). u.taken) rest.served.tally ∙ append_assoc old.taken last.tally.taken rest.served.links ∙ sym (ap (λ (u : Tallied K). u.taken) whole)
      ∙ taken_joined t all ∙ ap (λ (l : List K). l ++ all_of (map (λ w. w.tally.taken) all)) none in
      let last_kept : IsKept rest.history end.client = record { within = rest.within; all = rest.all } in
      let kept : AllByRecursion (λ w. IsKept rest.history w.client) all =
      all_push (λ (w : WorkerView K R). IsKept rest.history w.client) front end
      (all_mapped (λ w. w.client) (IsKept rest.history) front
      (all_then (HasAllOf rest.history) (IsKept rest.history) (map (λ w. w.client) front) (λ c has. record { within = has.within; all = has.own }) rest.met.1)) last_kept in
      let declarer : HasAllOf rest.history first = rest.met.0 in
      record {
        history = rest.history;
        shifts = shifts_of starts all;
        once = subst (λ (l : List K). EachOnce t.put l) (taken ∙ links_of queue starts all zip) (subst (λ (l : List K). EachOnce l new.taken) put rest.once);
        receipts = ap (λ l. l ++ result ∷ []) lists_are ∙ sym (map-append (λ w. w.receipts) front (end ∷ [])) ∙ receipts_of queue starts all zip;
        each = λ i shift at. is_shift queue history_id joins first starts all rest.history i shift staff kept (shift_at queue starts all i shift zip at);
        declares = ap (λ (n : ℕ). written_by n rest.history) (sym staff.alone.numbered) ∙ declarer.own ∙ staff.wrote;
        recorded = subst (λ (n : ℕ). IsRecorded n rest.history) (staff.alone.all ∙ ap (λ (n : ℕ). n + 1) (sym (shifts_count queue starts all zip))) declarer.recorded;
      }

  -- ---- what the calls of `settle` ask

  pub queues_of : (queue : TableId) (ss : List PassView) (ws : List (WorkerView K R)) → HaveWorked told tells (hired queue ss) ws → AllByRecursion (λ w. w.tally.queue ≡ queue) ws
  queues_of queue [] [] zip = tt
  queues_of queue [] (w ∷ ws) zip = absurd zip
  queues_of queue (s ∷ ss) [] zip = absurd zip
  queues_of queue (s ∷ ss) (w ∷ ws) zip = (ap (λ (u : Tallied K). u.queue) zip.0.served.tally, queues_of queue ss ws zip.1)

  pub whole_joined : (queue : TableId) (t : Tallied K) (ss : List PassView) (front : List (WorkerView K R)) (last : WorkerView K R) → HaveWorked told tells (hired queue ss) (front ++ last ∷ []) →
      (joined_all t (map (λ w. w.tally) front)).parts + last.tally.parts ≡ t.parts + length (front ++ last ∷ [])
  whole_joined queue t ss front last zip =
      let parts = parts_joined queue t ss (front ++ last ∷ []) zip in
      let whole : joined_all t (map (λ w. w.tally) (front ++ last ∷ [])) ≡ joined (joined_all t (map (λ w. w.tally) front)) last.tally =
      ap (λ l. joined_all t l) (map-append (λ w. w.tally) front (last ∷ [])) ∙ joined_all_push t (map (λ w. w.tally) front) last.tally in
      sym (ap (λ (u : Tallied K). u.parts) whole) ∙ parts

  -- ---- what `serve_doors` says

  -- there are as many workers as clients
  pub worked_count : (queue : TableId) (clients : List PassView) (workers : List (WorkerView K R)) → HaveWorked told tells (hired queue clients) workers → length workers ≡ length clients
  worked_count queue clients workers worked =
      sym (length_all_zip (HasWorked told tells) (hired queue clients) workers worked) ∙ length-map clients (fresh queue)

  pub links_came_back : (workers : ℕ) (joins : List Join) (first last : DoorsTold K R) (now : Option (List K)) (old new : Tallied K) (receipts : List (List R)) →
      HasAccepted first.held now old new → old.put ≡ [] → last.held ≡ now → length receipts ≡ workers → CameBack told tells joins new.put receipts → IfSome last.returned (λ lists. lists ≡ receipts) →
      LinksCameBack told tells workers joins first last
  links_came_back workers joins first last now old new receipts accepted none same staffed back returns = record {
    given = accepted.given;
    receipts = receipts;
    staffed = staffed;
    gave = accepted.gave ∙ ap (option_map (λ links. accepted.given ++ links)) (sym same);
    returns = returns;
    back = subst (λ (put : List K). CameBack told tells joins put receipts) (ap (λ (t : Tallied K). t.put) accepted.tally ∙ ap (λ (l : List K). l ++ accepted.given) none) back;
  }
