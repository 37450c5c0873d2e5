-- What reading costs where one output alone is reached, and what it leaves in the cells.
use Rattle.std.specs.Prelude.{◌≡◌, ℕ, ◌+◌, ◌<◌, ◌≤◌, List, [], ◌∷◌, ◌++◌, length, take, slice_get, true, Some, None}
use Rattle.semantics.specs.Texts.{Range, pairs_within}
use Rattle.semantics.specs.Joins.{Join, push}
use Rattle.semantics.specs.Histories.{History, DeclaredJoin, joins_of, base_of}
use Rattle.semantics.specs.Outputs.{out}
use Rattle.semantics.specs.States.{below}
use Rattle.key_ranges.specs.Ranges.{is_open}
use Rattle.layering.specs.Reached.{reached, ReachesNoneBelow}
use Rattle.layering.specs.Parts.{IsWithin}
use Rattle.kept_ranges.specs.Sound.{KeptRange}
use Rattle.range_state.specs.Held.{forgotten}
use Rattle.range_state.specs.Ready.{StandsAt, pending_meets}
use Rattle.range_state.specs.Asking.{AreBareThroughout}
use Rattle.cell_slots.specs.Serving.{WasAdvanced, WasMended}
use Rattle.cell_slots.specs.declared.slot.Part.{Part}
use Rattle.cell_slots.specs.declared.slot.Slot.{Slot}
use Rattle.cell_slots.specs.declared.slot.Slot.TheVariants.{Free, Held}
use Rattle.cell_slots.specs.Places.{LiesInPlace}
use Rattle.cell_slots.specs.Slots.{Holdings, place_at, with_slot, HasFree, MeetsNone, IsReadySlot, HoldsReady, HoldsWhole, StandsAs}

-- the number of base pairs in a range after the first p entries
abbrev pub base_count : History → ℕ → Range → ℕ
base_count h p range = length (pairs_within range (base_of (take p h)))

-- the number of pairs in a range that a join makes of what stands below a rank after the first p entries
abbrev pub row_count : History → ℕ → Range → ℕ → Join → ℕ
row_count h p range rank j = length (pairs_within range (out j (below (take p h) rank)))

-- the whole range as one part, which a cell holds
abbrev pub one_part : Range → ℕ → List Part
one_part range id = record { range = range; cell = Some id } ∷ []

-- the whole range as one part, which no cell holds
abbrev pub one_gap : Range → List Part
one_gap range = record { range = range; cell = None } ∷ []

-- a range is covered by one cell alone, and no cell changes
pub record CoversAlone (before after : Holdings) (id : ℕ) (range : Range) (parts : List Part) : Type 0 where
  pub one : parts ≡ one_part range id
  pub still : after ≡ before

-- a gap is reserved: it is covered by a cell that was free and now holds the range, for which nothing is kept yet
pub record Reserves (before after : Holdings) (at rank : ℕ) (j : Join) (range : Range) (parts : List Part) : Type 0 where
  pub id : ℕ
  pub free : slice_get before.slots id ≡ Some Free
  pub one : parts ≡ one_part range id
  pub set : after ≡ with_slot id (Held at (forgotten j rank range)) before

-- a cell holds just a range afterwards; at the lowest rank no other cell was used
pub record KeepsJust (before after : Holdings) (rank at p : ℕ) (range : Range) : Type 0 where
  pub id : ℕ
  pub is : HoldsWhole after.slots id at p range
  pub alone : rank ≡ 0 → after.used ≡ before.used ++ id ∷ []

-- a cell that could be read over a range can still be, with what it held, and it alone was used
pub record StaysReady (before after : Holdings) (id at p : ℕ) (range : Range) (s : KeptRange) : Type 0 where
  pub is : IsReadySlot after.slots id at p range s
  pub used : after.used ≡ before.used ++ id ∷ []

-- the slot with a number holds a kept range of the join at a position: it stands at q, below p, the ranges of its needs are bare from q to p, and a part lies within it
pub record StandsBehind (h : History) (slots : List Slot) (id at q p : ℕ) (part : Range) (s : KeptRange) : Type 0 where
  pub held : slice_get slots id ≡ Some (Held at s)
  pub whole : IsWithin part s.range
  pub stands : StandsAt q s
  pub behind : q < p
  pub bare : AreBareThroughout h q p s.kept.needs

-- what such a slot held was advanced, and mended where something pending met the part: the slot holds what that leaves
pub record HoldsAdvanced (h : History) (slots : List Slot) (id at q p : ℕ) (part : Range) (s : KeptRange) (before after : ℕ) : Type 0 where
  pub state : KeptRange
  pub held : slice_get slots id ≡ Some (Held at state)
  pub was : WasAdvanced h q p part s state before after

-- what such a slot held was advanced, with so many steps beside what that costs, and no more than some number
pub record AdvancesWithin (h : History) (slots : List Slot) (id at q p : ℕ) (range : Range) (s : KeptRange) (most added : ℕ) : Type 0 where
  pub beside : ℕ
  pub few : beside ≤ most
  pub holds : HoldsAdvanced h slots id at q p range s beside added

-- the slot with a number holds a kept range of the join at a position: it stands at p, something pending meets a part, and the part lies within it
pub record StandsPending (slots : List Slot) (id at p : ℕ) (part : Range) (s : KeptRange) : Type 0 where
  pub held : slice_get slots id ≡ Some (Held at s)
  pub whole : IsWithin part s.range
  pub stands : StandsAt p s
  pub meets : pending_meets s part ≡ true

-- what such a slot held was mended for the part: the slot holds what that leaves
pub record HoldsMended (h : History) (slots : List Slot) (id at p : ℕ) (part : Range) (s : KeptRange) (before after : ℕ) : Type 0 where
  pub state : KeptRange
  pub held : slice_get slots id ≡ Some (Held at state)
  pub was : WasMended h p part s state before after

-- what such a slot held was mended, with so many steps beside what that costs, and no more than some number
pub record MendsWithin (h : History) (slots : List Slot) (id at p : ℕ) (range : Range) (s : KeptRange) (most added : ℕ) : Type 0 where
  pub beside : ℕ
  pub few : beside ≤ most
  pub holds : HoldsMended h slots id at p range s beside added

-- a range may be kept: its join is a push join, a cell is free, and none keeps a part of the range
pub record MayKeep (slots : List Slot) (at : ℕ) (j : Join) (range : Range) : Type 0 where
  pub pushed : j.kind ≡ push
  pub free : HasFree slots
  pub apart : MeetsNone slots at range

-- reading what one join gives in a range: where a cell can be read over it, it costs one step and its rows, and the cell stays; what a cell of the join's rank holds behind is advanced, and mended where something is pending then; what it holds there with something pending is mended; where it may be kept, a cell holds it afterwards
pub record OneSpends (h : History) (before after : Holdings) (p : ℕ) (range : Range) (rank at : ℕ) (j : Join) (added : ℕ) : Type 0 where
  pub used : is_open range ≡ true → HoldsReady before.slots at p range → added ≤ 1 + row_count h p range rank j
  pub stays : (id : ℕ) (s : KeptRange) → is_open range ≡ true → IsReadySlot before.slots id at p range s → StaysReady before after id at p range s
  pub behind : (id q : ℕ) (s : KeptRange) → is_open range ≡ true → s.rank ≡ rank → StandsBehind h before.slots id at q p range s →
      HoldsAdvanced h after.slots id at q p range s (1 + row_count h p range rank j) added
  pub pending : (id : ℕ) (s : KeptRange) → is_open range ≡ true → s.rank ≡ rank → StandsPending before.slots id at p range s → HoldsMended h after.slots id at p range s (1 + row_count h p range rank j) added
  pub kept : is_open range ≡ true → MayKeep before.slots at j range → KeepsJust before after rank at p range

-- a range is covered by parts: by the cell alone in whose place it lies, and where it may be kept by a cell that was free; for a pull join no cell changes
pub record Covers (h : History) (before after : Holdings) (at rank p : ℕ) (range : Range) (parts : List Part) : Type 0 where
  pub alone : (id : ℕ) → is_open range ≡ true → LiesInPlace (place_at before.slots) id at range → CoversAlone before after id range parts
  pub ranked : (id : ℕ) (s : KeptRange) → IsReadySlot before.slots id at p range s → s.rank ≡ rank
  pub reserved : (j : Join) → StandsAs h p at rank j → is_open range ≡ true → MayKeep before.slots at j range → Reserves before after at rank j range parts
  pub pulled : (j : Join) → StandsAs h p at rank j → (j.kind ≡ push → ⊥) → after ≡ before

-- a part is read: with one step and its rows where its cell can be read over it, which stays then; what its cell holds is advanced where it stands behind, and mended where something is pending there that meets the part; and a cell that was reserved for it holds it afterwards
pub record Took (h : History) (before after : Holdings) (at rank p : ℕ) (part : Part) (rows added : ℕ) : Type 0 where
  pub ready : (id : ℕ) (s : KeptRange) → part.cell ≡ Some id → s.rank ≡ rank → IsReadySlot before.slots id at p part.range s → added ≡ 1 + rows
  pub stays : (id : ℕ) (s : KeptRange) → part.cell ≡ Some id → s.rank ≡ rank → IsReadySlot before.slots id at p part.range s → StaysReady before after id at p part.range s
  pub behind : (id q : ℕ) (s : KeptRange) → part.cell ≡ Some id → s.rank ≡ rank → StandsBehind h before.slots id at q p part.range s → HoldsAdvanced h after.slots id at q p part.range s (1 + rows) added
  pub pending : (id : ℕ) (s : KeptRange) → part.cell ≡ Some id → s.rank ≡ rank → StandsPending before.slots id at p part.range s → HoldsMended h after.slots id at p part.range s (1 + rows) added
  pub held : (id : ℕ) (j : Join) → part.cell ≡ Some id → slice_get before.slots id ≡ Some (Held at (forgotten j rank part.range)) → KeepsJust before after rank at p part.range

-- reading what joins give: nothing where there are none, and of one alone, by the position of its declaration, what that one costs and leaves
abbrev pub JoinsSpend : {S : Type 0} → (S → S → ℕ → Join → ℕ → Type 0) → S → S → List DeclaredJoin → ℕ → Type 0
JoinsSpend one before after [] added = (added ≡ 0) × (after ≡ before)
JoinsSpend one before after (s ∷ []) added = one before after s.position s.join added
JoinsSpend one before after (s ∷ t ∷ more) added = Unit {0}

-- of the joins below a rank a range reaches one alone, which has this rank
pub record ReachesOnly (joins : List DeclaredJoin) (range : Range) (top rank : ℕ) (s : DeclaredJoin) : Type 0 where
  pub is_below : rank < top
  pub one : reached range rank joins ≡ s ∷ []
  pub alone : (r : ℕ) → r < top → (r ≡ rank → ⊥) → reached range r joins ≡ []

-- reading a range below a rank: where no join below the rank reaches it, it costs at most one step and the base pairs, and no cell changes; where one alone does, it costs that and what reading of this one costs, and leaves what that leaves
pub record Spends (h : History) (before after : Holdings) (p : ℕ) (range : Range) (top added : ℕ) : Type 0 where
  pub none : ReachesNoneBelow range top (joins_of (take p h)) → added ≤ 1 + base_count h p range
  pub still : ReachesNoneBelow range top (joins_of (take p h)) → after ≡ before
  pub used : (rank : ℕ) (s : DeclaredJoin) → ReachesOnly (joins_of (take p h)) range top rank s → is_open range ≡ true → HoldsReady before.slots s.position p range →
      added ≤ 2 + base_count h p range + row_count h p range rank s.join
  pub stays : (rank : ℕ) (s : DeclaredJoin) → ReachesOnly (joins_of (take p h)) range top rank s → is_open range ≡ true → (id : ℕ) (kept : KeptRange) → IsReadySlot before.slots id s.position p range kept →
      StaysReady before after id s.position p range kept
  pub behind : (rank : ℕ) (s : DeclaredJoin) → ReachesOnly (joins_of (take p h)) range top rank s → is_open range ≡ true → (id q : ℕ) (kept : KeptRange) → kept.rank ≡ rank →
      StandsBehind h before.slots id s.position q p range kept → AdvancesWithin h after.slots id s.position q p range kept (2 + base_count h p range + row_count h p range rank s.join) added
  pub pending : (rank : ℕ) (s : DeclaredJoin) → ReachesOnly (joins_of (take p h)) range top rank s → is_open range ≡ true → (id : ℕ) (kept : KeptRange) → kept.rank ≡ rank →
      StandsPending before.slots id s.position p range kept → MendsWithin h after.slots id s.position p range kept (2 + base_count h p range + row_count h p range rank s.join) added
  pub kept : (rank : ℕ) (s : DeclaredJoin) → ReachesOnly (joins_of (take p h)) range top rank s → is_open range ≡ true → MayKeep before.slots s.position s.join range →
      KeepsJust before after rank s.position p range
