-- The slots of cells, and how they change.
use Rattle.std.specs.Prelude.{◌≡◌, ℕ, ◌-◌, ◌≤◌, List, [], ◌∷◌, ◌++◌, length, take, slice_get, slice_set, true, Option, Some, None, is_some}
use Rattle.semantics.specs.Texts.{Table, Range, pairs_within}
use Rattle.semantics.specs.Joins.{Join}
use Rattle.semantics.specs.Histories.{declare, Entry, History, DeclaredJoin, joins_of}
use Rattle.semantics.specs.Outputs.{out}
use Rattle.semantics.specs.States.{below}
use Rattle.key_ranges.specs.Containing.{bind_range}
use Rattle.layering.specs.Parts.{IsWithin}
use Rattle.layering.specs.Reached.{StandsWithRank}
use Rattle.kept_ranges.specs.Sound.{KeptRange, IsSound}
use Rattle.range_state.specs.Ready.{IsReady, StandsAt}
use Rattle.cell_slots.specs.Serving.{IsPast, StandsFrom}
use Rattle.cell_slots.specs.declared.slot.Slot.{Slot}
use Rattle.cell_slots.specs.declared.slot.Slot.TheVariants.{Free, Lent, Held}
use Rattle.cell_slots.specs.Places.{MeetsNoPlace, place_in}

-- over what cells are held: how many entries the history has, and how much what they keep may weigh together
pub record Setting : Type 0 where
  pub entries : ℕ
  pub room : ℕ

-- where that is not known
abbrev pub no_setting : Setting
no_setting = record { entries = 0; room = 0 }

-- the slots of the cells, the numbers of those that were lent, in order, and over what they are held
pub record Holdings : Type 0 where
  pub slots : List Slot
  pub used : List ℕ
  pub setting : Setting

-- cells that are held over something
abbrev pub held_over : Setting → Holdings → Holdings
held_over setting before = record { slots = before.slots; used = before.used; setting = setting }

-- cells with another slot at a number
abbrev pub with_slot : ℕ → Slot → Holdings → Holdings
with_slot id slot before = record { slots = slice_set before.slots id slot; used = before.used; setting = before.setting }

-- cells of which one is lent: its slot keeps the place
abbrev pub with_lent : ℕ → ℕ → Range → Holdings → Holdings
with_lent id at range before = record { slots = slice_set before.slots id (Lent at range); used = before.used ++ id ∷ []; setting = before.setting }

-- the place that a slot keeps for a range: the position of its join's declaration, and the range
abbrev pub place_of : Slot → Option (ℕ × Range)
place_of Free = None
place_of (Lent at range) = Some (at, range)
place_of (Held at s) = Some (at, s.range)

-- the place that the slot with a number keeps, if there is one and it keeps one
abbrev pub place_at : List Slot → ℕ → Option (ℕ × Range)
place_at slots id = place_in place_of slots id

-- each place that a slot keeps it keeps afterwards: no cell was freed, nor given to another range
abbrev pub KeepPlaces : List Slot → List Slot → Type 0
KeepPlaces before after = (id : ℕ) (place : ℕ × Range) → place_at before id ≡ Some place → place_at after id ≡ Some place

-- ---- joins by their positions

-- the entry at a position declares the join
pub record IsDeclared (h : History) (at : ℕ) (j : Join) : Type 0 where
  pub counted : 1 ≤ at
  pub entry : Entry
  pub stands : slice_get h (at - 1) ≡ Some entry
  pub declares : entry.write ≡ declare j

-- the join that was declared at a position stands after the first p entries, with this rank
pub record StandsAs (h : History) (p at rank : ℕ) (j : Join) : Type 0 where
  pub declared : IsDeclared h at j
  pub stands : StandsWithRank (joins_of (take p h)) rank (record { position = at; join = j })

-- so does a join whose output a range reaches
pub record IsReached (h : History) (p at rank : ℕ) (range : Range) : Type 0 where
  pub join : Join
  pub stands : StandsAs h p at rank join
  pub reaches : is_some (bind_range join.output range) ≡ true

-- the output of the join that was declared at a position in a range, after the first p entries
abbrev pub IsOutput : History → ℕ → ℕ → ℕ → Range → Table → Type 0
IsOutput h p at rank range pairs = (j : Join) → StandsAs h p at rank j → pairs ≡ pairs_within range (out j (below (take p h) rank))

-- no join that was declared at a position stands among joins
abbrev pub StandsNot : List DeclaredJoin → ℕ → Type 0
StandsNot joins at = (place : ℕ) (s : DeclaredJoin) → slice_get joins place ≡ Some s → s.position ≡ at → ⊥

-- the join that was declared at a position stands among joins with a rank, or it does not stand
abbrev pub IsRankIn : List DeclaredJoin → ℕ → Option ℕ → Type 0
IsRankIn joins at None = StandsNot joins at
IsRankIn joins at (Some rank) = (j : Join) × StandsWithRank joins rank (record { position = at; join = j })

-- the join that was declared at a position stands after the first p entries with a rank, or it does not: it is declared later, or is dropped by then
abbrev pub IsRankAt : History → ℕ → ℕ → Option ℕ → Type 0
IsRankAt h p at rank = IsRankIn (joins_of (take p h)) at rank

-- ---- what slots hold

-- what a slot holds is right: its join was declared at its position, and the kept range is sound
pub record IsRightFor (h : History) (at : ℕ) (s : KeptRange) : Type 0 where
  pub declared : IsDeclared h at s.join
  pub sound : IsSound s h

-- what is held in a slot is right
abbrev pub IsSoundSlot : History → Slot → Type 0
IsSoundSlot h Free = Unit {0}
IsSoundSlot h (Lent at range) = Unit {0}
IsSoundSlot h (Held at s) = IsRightFor h at s

-- some slot is free
pub record HasFree (slots : List Slot) : Type 0 where
  pub id : ℕ
  pub free : slice_get slots id ≡ Some Free

-- no slot keeps a place for a range of the join that was declared at a position and that meets a range
abbrev pub MeetsNone : List Slot → ℕ → Range → Type 0
MeetsNone slots at range = MeetsNoPlace (place_at slots) at range

-- the slot with a number holds a kept range that can be read over a range at a position
pub record IsReadySlot (slots : List Slot) (id at p : ℕ) (range : Range) (s : KeptRange) : Type 0 where
  pub held : slice_get slots id ≡ Some (Held at s)
  pub ready : IsReady p range s
  pub whole : IsWithin range s.range

-- some slot does
pub record HoldsReady (slots : List Slot) (at p : ℕ) (range : Range) : Type 0 where
  pub id : ℕ
  pub state : KeptRange
  pub is : IsReadySlot slots id at p range state

-- the slot with a number holds just a range, at a position, with nothing pending
pub record HoldsWhole (slots : List Slot) (id at p : ℕ) (range : Range) : Type 0 where
  pub state : KeptRange
  pub held : slice_get slots id ≡ Some (Held at state)
  pub stands : StandsAt p state
  pub clear : state.kept.pending ≡ []
  pub just : state.range ≡ range

-- some slot does
pub record HoldsJust (slots : List Slot) (at p : ℕ) (range : Range) : Type 0 where
  pub id : ℕ
  pub is : HoldsWhole slots id at p range

-- ---- how slots change

-- a slot that a reader of a top rank leaves as it is: one that is lent, or that holds a kept range of at least this rank
abbrev pub IsLeft : ℕ → Slot → Type 0
IsLeft top Free = ⊥
IsLeft top (Lent at range) = Unit {0}
IsLeft top (Held at s) = top ≤ s.rank

-- how a reader of a top rank leaves the cells: there are as many slots, those that it leaves are as they were, each place that was kept is kept, those that are lent afterwards were before, a reader of the lowest rank uses no cell, and they are held over the same
pub record Frame (top : ℕ) (before after : Holdings) : Type 0 where
  pub same_count : length after.slots ≡ length before.slots
  pub left : (id : ℕ) (slot : Slot) → slice_get before.slots id ≡ Some slot → IsLeft top slot → slice_get after.slots id ≡ Some slot
  pub places : KeepPlaces before.slots after.slots
  pub lent : (id at : ℕ) (range : Range) → slice_get after.slots id ≡ Some (Lent at range) → slice_get before.slots id ≡ Some (Lent at range)
  pub unused : top ≡ 0 → after.used ≡ before.used
  pub same_setting : after.setting ≡ before.setting

-- a kept range is taken out of a slot, which keeps its place, and the cell is used: the kept range is for that place, of the join that was declared at the position, with this rank, is sound, holds the part, and stands nowhere, or from a floor on and not past a position
pub record Takes (h : History) (floor : ℕ) (before after : Holdings) (id at rank p : ℕ) (part : Range) (state : KeptRange) : Type 0 where
  pub was : KeptRange
  pub held : slice_get before.slots id ≡ Some (Held at was)
  pub least : was.rank ≤ rank
  pub lent : after ≡ with_lent id at state.range before
  pub same_range : was.range ≡ state.range
  pub ranked : state.rank ≡ rank
  pub right : IsRightFor h at state
  pub from : StandsFrom floor state
  pub upto : IsPast p state → ⊥
  pub whole : IsWithin part state.range
