-- Items behind a door.
use Rattle.std.specs.Prelude.{ℕ, List, [], ◌∷◌, ◌++◌, length, Bool, true, false, nat_le, if◌then◌else◌}
use Rattle.door_queue.specs.declared.door_state.Offered.{Offered}
use Rattle.door_queue.specs.declared.door_state.Offered.TheVariants as offered
use Rattle.door_queue.specs.declared.door_state.Next.{Next}
use Rattle.door_queue.specs.declared.door_state.Next.TheVariants as next

-- the items, the one that was kept first in front; for how many there is room; and whether no more are kept
pub record Door (T : Type 0) : Type 0 where
  pub items : List T
  pub most : ℕ
  pub is_closed : Bool

module _ {T : Type 0} where
  -- a door by its parts
  abbrev pub door : List T → ℕ → Bool → Door T
  door items most is_closed = record { items = items; most = most; is_closed = is_closed }

  -- whether there is no room
  abbrev pub is_full : Door T → Bool
  is_full d = nat_le d.most (length d.items)

  -- what comes of an item that is offered: it comes back where it is closed, and where it is open and full; otherwise it is kept
  abbrev pub answer_to : T → Door T → Offered T
  answer_to item d = if d.is_closed then offered.Closed item else (if is_full d then offered.Full item else offered.Kept)

  -- with an item that is offered as the last, where it is kept
  abbrev pub with_offer : T → Door T → Door T
  with_offer item d = if d.is_closed then d else (if is_full d then d else record d { items = d.items ++ item ∷ [] })

  -- the first item; without one, whether one may come
  abbrev pub first_of : List T → Bool → Next T
  first_of [] true = next.Closed
  first_of [] false = next.Empty
  first_of (item ∷ items) is_closed = next.Item item

  -- what is next: the first item; where there is none, whether it is closed
  abbrev pub next_of : Door T → Next T
  next_of d = first_of d.items d.is_closed

  -- the items without the first
  abbrev pub others : List T → List T
  others [] = []
  others (item ∷ items) = items

  -- without the first item
  abbrev pub without_next : Door T → Door T
  without_next d = record d { items = others d.items }

  -- closed
  abbrev pub closed : Door T → Door T
  closed d = record d { is_closed = true }
