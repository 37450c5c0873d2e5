-- Links that were served, and the receipts of them.
use Rattle.std.specs.Prelude.{◌≡◌, ◌↔◌, ℕ, ◌+◌, ◌≤◌, List, [], ◌∷◌, ◌++◌, fold, length, map, slice_get, Option, Some, is_some, true, IfSome, option_map, Result, MatchResult, Vec, ⊤}
use Rattle.std.specs.Global.{Global}
use Rattle.semantics.specs.Texts.{Text}
use Rattle.semantics.specs.Joins.{Join}
use Rattle.semantics.specs.Histories.{History, IsPrefix}
use Rattle.protocol.specs.Session.{Ending, Served, no_memory, read_fault, write_fault}
use Rattle.pq_io.specs.Doors.{DoorsTold}
use Rattle.pq_io.specs.Faults.{Rose}
use Rattle.pq_io.specs.Links.{LinkTold}
use Rattle.pq_io.specs.Streams.{Gave, Took}
use Rattle.std.specs.List.{AllByRecursion, AllZip}
use Rattle.atomic_table.specs.Seated.{TableId}
use Rattle.door_queue.specs.Tallies.{Tallied, EachOnce, joined, tally_of}
use Rattle.write_history.specs.Entries.{IsRecorded, written_by}
use Rattle.write_history.specs.Passes.{PassView}
use Rattle.pequod_cache.specs.Meeting.{HasAllOf}
use Rattle.server.specs.Staffs.{declared}

-- a count of faults rose where that side's fault ended the serving, and only there
pub record CountsFault (faulted : Type 0) (before now : ℕ) : Type 0 where
  pub later : before ≤ now
  pub kept : (faulted → ⊥) → now ≡ before
  pub failed : faulted → Rose before now

-- a client served a link from one view to another: what the link told at first, and what it told in the end; it tells a refusal
-- exactly where no memory was found to begin with
pub record WasServed (client : ℕ) (before after : History) (old new : LinkTold) : Type 0 where
  pub ending : Ending
  pub bytes : Text
  pub written : Text
  pub gave : Gave old.left new.left bytes
  pub took : Took old.taken new.taken written
  pub served : Served ending (record { before = before; after = after; client = client; bytes = bytes; written = written; left = new.left })
  pub reads : CountsFault (ending ≡ read_fault) old.read_faults new.read_faults
  pub writes : CountsFault (ending ≡ write_fault) old.write_faults new.write_faults
  pub refused : (is_some new.refused ≡ true) ↔ (ending ≡ no_memory)

-- the elements of all lists, in order
abbrev pub all_of : {A : Type 0} → List (List A) → List A
all_of [] = []
all_of (list ∷ lists) = list ++ all_of lists

-- the links that one client served, what it had seen before and after, and the receipts, in order
pub record Shift (K R : Type 0) : Type 0 where
  pub before : History
  pub after : History
  pub links : List K
  pub receipts : List R

-- what a worker has
pub record WorkerView (K R : Type 0) : Type 0 where
  pub client : PassView
  pub tally : Tallied K
  pub receipts : List R

module _ {K R : Type 0} (told : K → LinkTold) (tells : R → LinkTold) where
  -- a client served the links one after another, from one view to another, each as its receipt tells
  abbrev pub ServedInTurn : ℕ → History → History → List K → List R → Type 0
  ServedInTurn client before after [] [] = after ≡ before
  ServedInTurn client before after [] (receipt ∷ receipts) = ⊥
  ServedInTurn client before after (link ∷ links) [] = ⊥
  ServedInTurn client before after (link ∷ links) (receipt ∷ receipts) =
      (between : History) × WasServed client before between (told link) (tells receipt) × ServedInTurn client between after links receipts

  -- a client with a number served the links of a shift in turn; the joins were declared before, and it had written nothing.
  -- The history begins with all that it had seen in the end, and of its number has nothing else
  pub record IsShift (joins : List Join) (history : History) (client : ℕ) (shift : Shift K R) : Type 0 where
    pub begins : IsPrefix (declared joins) shift.before
    pub idle : written_by client shift.before ≡ []
    pub in_turn : ServedInTurn client shift.before shift.after shift.links shift.receipts
    pub within : IsPrefix shift.after history
    pub all : written_by client history ≡ written_by client shift.after

  -- each link that was given was served once, over one history, by clients with the numbers from 1 up; and these are their
  -- receipts. The client with the number 0 wrote the declarations of the joins and nothing else, and each other entry is by a client
  -- of these shifts
  pub record CameBack (joins : List Join) (given : List K) (returned : List (List R)) : Type 0 where
    pub history : History
    pub shifts : List (Shift K R)
    pub once : EachOnce given (all_of (map (λ s. s.links) shifts))
    pub receipts : returned ≡ map (λ s. s.receipts) shifts
    pub each : (i : ℕ) (shift : Shift K R) → slice_get shifts i ≡ Some shift → IsShift joins history (i + 1) shift
    pub declares : written_by 0 history ≡ declared joins
    pub recorded : IsRecorded (length shifts + 1) history

  -- so did the links that doors gave, where they tell what they held and what came back: a list of receipts of each of so many
  -- workers
  pub record LinksCameBack (workers : ℕ) (joins : List Join) (old new : DoorsTold K R) : Type 0 where
    pub given : List K
    pub receipts : List (List R)
    pub staffed : length receipts ≡ workers
    pub gave : old.held ≡ option_map (λ links. given ++ links) new.held
    pub returns : IfSome new.returned (λ lists. lists ≡ receipts)
    pub back : CameBack joins given receipts

  -- more links were taken and served in turn: what stands in the tally, and behind the receipts
  pub record HasServed (client : ℕ) (before after : History) (old new : Tallied K) (receipts receipts_now : List R) : Type 0 where
    pub links : List K
    pub more : List R
    pub tally : new ≡ record old { taken = old.taken ++ links }
    pub returned : receipts_now ≡ receipts ++ more
    pub in_turn : ServedInTurn client before after links more

  -- a worker has served links, with the number that it had
  pub record HasWorked (old new : WorkerView K R) : Type 0 where
    pub same_number : new.client.number ≡ old.client.number
    pub served : HasServed old.client.number old.client.view new.client.view old.tally new.tally old.receipts new.receipts

  -- each of the workers has
  abbrev pub HaveWorked : List (WorkerView K R) → List (WorkerView K R) → Type 0
  HaveWorked before after = AllZip HasWorked before after

  -- where workers have ended and their tallies are joined, the last of them has served the links that were left, and its client has
  -- met the others twice: what it had seen before, and the history, which has what each had seen and written
  pub record ServedTheRest (last : WorkerView K R) (others : List PassView) (old new : Tallied K) (receipts_now : List R) : Type 0 where
    pub seen : History
    pub history : History
    pub served : HasServed last.client.number last.client.view seen (joined old last.tally) new last.receipts receipts_now
    pub once : EachOnce new.put new.taken
    pub within : IsPrefix seen history
    pub all : written_by last.client.number history ≡ written_by last.client.number seen
    pub met : AllByRecursion (HasAllOf history) others

-- a tally to which others are joined, in order
abbrev pub joined_all : {K : Type 0} → Tallied K → List (Tallied K) → Tallied K
joined_all tally tallies = fold joined tally tallies

-- workers that have served nothing, with these clients
abbrev pub hired : {K R : Type 0} → TableId → List PassView → List (WorkerView K R)
hired queue clients = map (λ c. record { client = c; tally = tally_of queue 1; receipts = [] }) clients

-- a task was done beside workers: what it gives, and what each worker leaves, in order; or it was not done, and comes back beside
-- the refusal
abbrev pub RanBeside : {T A W L : Type 0} → (T → A → Type 0) → (W → L → Type 0) → T → List W → Result (A × Vec L Global) (⊤ × T) → Type 0
RanBeside gives leaves task workers result = MatchResult result (λ done. gives task done.0 × AllZip leaves workers done.1.items) (λ back. back.1 ≡ task)

-- the doors gave links, which were put
pub record HasAccepted {K : Type 0} (held held_now : Option (List K)) (old new : Tallied K) : Type 0 where
  pub given : List K
  pub gave : held ≡ option_map (λ links. given ++ links) held_now
  pub tally : new ≡ record old { put = old.put ++ given }
