-- Links that doors hold and give, where that is told.
use Rattle.std.specs.Prelude.{◌≡◌, ◌⊎◌, ℕ, List, [], ◌∷◌, ◌++◌, map, Option, Some, None, IfSome, option_map, Result, Ok, Err, String, Vec, string_bytes}
use Rattle.std.specs.Global.{Global}
use Rattle.pq_io.specs.CallLog.{CallLog}

-- where it is told, the links that were held are this one and then those that are held now; what is not told stays untold
abbrev pub GaveLink : {K : Type 0} → Option (List K) → Option (List K) → K → Type 0
GaveLink old new link = old ≡ option_map (λ links. link ∷ links) new

-- `next()` gave the first link, or none where, as far as it is told, none is held; an error gave none
abbrev pub GivesNextLink : {K E : Type 0} → Option (List K) → Option (List K) → Result (Option K) E → Type 0
GivesNextLink old new (Ok (Some link)) = GaveLink old new link
GivesNextLink old new (Ok None) = (new ≡ old) × IfSome new (λ links. links ≡ [])
GivesNextLink old new (Err e) = new ≡ old

-- where it is told at which addresses doors were opened, in order, this one came behind the others; what is not told stays untold
abbrev pub OpenedAt : Option (List (List ℕ)) → Option (List (List ℕ)) → List ℕ → Type 0
OpenedAt old new address = IfSome new (λ all. option_map (λ others. others ++ address ∷ []) old ≡ Some all)

-- they were opened at no other address: at this one, or not at all
abbrev pub OpenedNowhereElse : Option (List (List ℕ)) → Option (List (List ℕ)) → List ℕ → Type 0
OpenedNowhereElse old new address = (new ≡ old) ⊎ OpenedAt old new address

-- they were opened at this address and at no other; an error came where they were not, or later
abbrev pub OpenedFor : {T E : Type 0} → Option (List (List ℕ)) → Option (List (List ℕ)) → List ℕ → Result T E → Type 0
OpenedFor old new address (Ok x) = OpenedAt old new address
OpenedFor old new address (Err e) = OpenedNowhereElse old new address

-- lists as contracts see them
abbrev pub lists_of : {R : Type 0} → List (Vec R Global) → List (List R)
lists_of lists = map (λ list. list.items) lists

-- the lists that came back, none where nothing did
abbrev pub returned_of : {R : Type 0} → Option (Vec (Vec R Global) Global) → List (List R)
returned_of None = []
returned_of (Some lists) = lists_of lists.items

-- where doors were opened, by what they keep of it; it is not told any more once no memory was found to keep it
abbrev pub opened_of : Option (Vec (String Global) Global) → Option (List (List ℕ))
opened_of None = None
opened_of (Some all) = Some (map string_bytes all.items)

-- what doors tell: the links that they hold, the receipts that came back last, the addresses at which they were opened, in order,
-- and how many calls have failed
pub record DoorsTold (K R : Type 0) : Type 0 where
  pub held : Option (List K)
  pub returned : Option (List (List R))
  pub opened : Option (List (List ℕ))
  pub faults : ℕ

-- what doors tell, by what tells each part
abbrev pub doors_told : {D K R : Type 0} → (D → Option (List K)) → (D → Option (List (List R))) → (D → Option (List (List ℕ))) → (D → ℕ) → D → DoorsTold K R
doors_told held returned opened faults doors = record { held = held doors; returned = returned doors; opened = opened doors; faults = faults doors }

-- what contracts see of doors in memory: the links that are held, the calls of `next`, the receipts that came back last, and the
-- addresses at which they were opened, in order
pub record DoorsState (K R : Type 0) : Type 0 where
  pub links : List K
  pub log : CallLog
  pub returned : List (List R)
  pub opened : Option (List (List ℕ))
