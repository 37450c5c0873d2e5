-- What was put into a queue and taken from it.
use Rattle.std.specs.Prelude.{◌≡◌, ℕ, ◌+◌, ◌-◌, ◌^◌, List, [], ◌∷◌, ◌++◌}
use mathlib.Core.Option.{some}
use lib.ListN.{get_elem?}
use Rattle.atomic_table.specs.Seated.{TableId}
use Rattle.door_queue.specs.declared.tally.Hand.{Hand}

-- the weights of the items, added up
abbrev pub weigh : {T : Type 0} → (T → ℕ) → List T → ℕ
weigh weight [] = 0
weigh weight (item ∷ items) = weight item + weigh weight items

-- however items are weighed, all that were put weigh what all that were taken weigh: each stands among the ones as often as among
-- the others
abbrev pub EachOnce : {T : Type 0} → List T → List T → Type 0
EachOnce {T} put taken = (weight : T → ℕ) → weigh weight put ≡ weigh weight taken

-- which queue a tally is of, how many parts of the whole it has, and what was put and taken with it, in order
pub record Tallied (T : Type 0) : Type 0 where
  pub queue : TableId
  pub parts : ℕ
  pub put : List T
  pub taken : List T

-- the parts of the whole
abbrev pub all_parts : ℕ
all_parts = 2 ^ 64

module _ {T : Type 0} where
  -- a tally with which nothing was put or taken
  abbrev pub tally_of : TableId → ℕ → Tallied T
  tally_of queue parts = record { queue = queue; parts = parts; put = []; taken = [] }

  -- without a part
  abbrev pub parted : Tallied T → Tallied T
  parted t = record t { parts = t.parts - 1 }

  -- an item more was put
  abbrev pub put_in : Tallied T → T → Tallied T
  put_in t item = record t { put = t.put ++ item ∷ [] }

  -- an item more was taken
  abbrev pub taken_out : Tallied T → T → Tallied T
  taken_out t item = record t { taken = t.taken ++ item ∷ [] }

  -- two as one
  abbrev pub joined : Tallied T → Tallied T → Tallied T
  joined t u = record { queue = t.queue; parts = t.parts + u.parts; put = t.put ++ u.put; taken = t.taken ++ u.taken }

  -- ---- what a pass of the queue knows

  abbrev pub hand : ℕ → List T → List T → Hand T
  hand parts put taken = record { parts = parts; put = put; taken = taken }

  abbrev pub whole_hand : Hand T
  whole_hand = hand all_parts [] []

  abbrev pub without_part : Hand T → Hand T
  without_part v = hand (v.parts - 1) v.put v.taken

  abbrev pub with_put : Hand T → T → Hand T
  with_put v item = hand v.parts (v.put ++ item ∷ []) v.taken

  abbrev pub with_taken : Hand T → T → Hand T
  with_taken v item = hand v.parts v.put (v.taken ++ item ∷ [])

  abbrev pub both_hands : Hand T → Hand T → Hand T
  both_hands v w = hand (v.parts + w.parts) (v.put ++ w.put) (v.taken ++ w.taken)

  abbrev pub tallied : TableId → Hand T → Tallied T
  tallied queue v = record { queue = queue; parts = v.parts; put = v.put; taken = v.taken }

  -- with a pass that has no part nothing was put or taken
  abbrev pub IdleIsEmpty : List (Hand T) → Type 0
  IdleIsEmpty views = (port : ℕ) (v : Hand T) → get_elem? views port ≡ some v → v.parts ≡ 0 → (v.put ≡ []) × (v.taken ≡ [])

  -- the passes have all parts, and what was put is what was taken and what the queue holds, however the items are weighed
  pub record IsBalanced (items : List T) (views : List (Hand T)) : Type 0 where
    pub whole : weigh (λ v. v.parts) views ≡ all_parts
    pub even : (weight : T → ℕ) → weigh (λ v. weigh weight v.put) views ≡ weigh (λ v. weigh weight v.taken) views + weigh weight items
    pub idle : IdleIsEmpty views

  -- what the whole tally knows: what was put with it is what was taken with it and what the queue holds
  abbrev pub WhatIsLeft : Hand T → List T → Type 0
  WhatIsLeft v items = (weight : T → ℕ) → weigh weight v.put ≡ weigh weight v.taken + weigh weight items
