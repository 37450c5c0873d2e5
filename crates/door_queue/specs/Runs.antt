-- Calls of a door, one after another.
use Rattle.std.specs.Prelude.{◌≡◌, ℕ, List, [], ◌∷◌, ◌++◌, fold, false}
use Rattle.door_queue.specs.declared.door_state.Offered.{Offered}
use Rattle.door_queue.specs.declared.door_state.Offered.TheVariants as offered
use Rattle.door_queue.specs.declared.door_state.Next.{Next}
use Rattle.door_queue.specs.declared.door_state.Next.TheVariants as next
use Rattle.door_queue.specs.Doors.{Door, door, answer_to, with_offer, next_of, without_next, closed}

-- a call: an item is offered, the next one is taken, or the door is closed
pub data Call (T : Type 0) : Type 0 where
  offers : T → Call T
  takes : Call T
  closes : Call T

-- a door, all items that it kept, and all that were taken, in order
pub record Run (T : Type 0) : Type 0 where
  pub state : Door T
  pub kept : List T
  pub taken : List T

module _ {T : Type 0} where
  -- the item, where it is kept
  abbrev pub kept_by : T → Offered T → List T
  kept_by item (offered.Kept) = item ∷ []
  kept_by item (offered.Full back) = []
  kept_by item (offered.Closed back) = []

  -- the item that is taken, if one is
  abbrev pub taken_by : Next T → List T
  taken_by (next.Item item) = item ∷ []
  taken_by (next.Empty) = []
  taken_by (next.Closed) = []

  -- after one call more
  abbrev pub after_call : Run T → Call T → Run T
  after_call r (offers item) = record { state = with_offer item r.state; kept = r.kept ++ kept_by item (answer_to item r.state); taken = r.taken }
  after_call r takes = record { state = without_next r.state; kept = r.kept; taken = r.taken ++ taken_by (next_of r.state) }
  after_call r closes = record { state = closed r.state; kept = r.kept; taken = r.taken }

  -- after calls of a new door, with room for so many
  abbrev pub run_of : ℕ → List (Call T) → Run T
  run_of most calls = fold after_call (record { state = door [] most false; kept = []; taken = [] }) calls

-- each item that was kept was taken once, in the order of keeping, or is left
abbrev pub KeptIsTakenOrLeft : Type 0 → Type 0
KeptIsTakenOrLeft T = (most : ℕ) (calls : List (Call T)) → (run_of most calls).kept ≡ (run_of most calls).taken ++ (run_of most calls).state.items
