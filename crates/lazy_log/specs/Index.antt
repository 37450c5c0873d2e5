-- Noted slots by their texts.
use Rattle.std.specs.Prelude.{◌≡◌, ◌⊎◌, List, [], ◌∷◌, length, Bool, true, false}
use Rattle.std.specs.List.{AllByRecursion}
use Rattle.std.specs.Ordering.{eq_by_cmp}
use Rattle.std.specs.Set.{is_member}
use Rattle.semantics.specs.Patterns.{Pattern, Slots}
use Rattle.key_ranges.specs.Containing.{only}
use Rattle.key_pattern.specs.SlotOrder.{slots_cmp}
use Rattle.key_pattern.specs.SlotPlaces.{AreAtPlaces, HaveSamePlaces}
use Rattle.lazy_log.specs.declared.index.Index.{Index}

-- whether equal slots are among these, by the order
abbrev pub is_among : List Slots → Slots → Bool
is_among = is_member (eq_by_cmp slots_cmp)

-- the slots have texts at places of the output alone
abbrev pub AreOwn : Pattern → Slots → Type 0
AreOwn output slots = HaveSamePlaces (only output slots) slots

-- one of the shapes has texts at the same places as the slots
abbrev pub HasShape : List Slots → Slots → Type 0
HasShape [] slots = ⊥
HasShape (shape ∷ shapes) slots = HaveSamePlaces slots shape ⊎ HasShape shapes slots

-- slots that may be noted beside an index: they are among those in order, have 16 places and texts at places of the output alone, and one of the shapes is theirs
pub record IsIndexed (output : Pattern) (index : Index) (slots : Slots) : Type 0 where
  pub own : AreOwn output slots
  pub places : length slots ≡ 16
  pub shape : HasShape index.shapes.items slots

-- an index is that of noted slots: it has just these in order
pub record IsIndexOf (output : Pattern) (noted : List Slots) (index : Index) : Type 0 where
  pub just : (slots : Slots) → is_among index.slots.keys slots ≡ is_among noted slots
  pub each : AllByRecursion (IsIndexed output index) noted

-- whether the slots that were found are, at the places of a shape, among those in order
pub record IsSought (keys : List Slots) (found shape : Slots) (has : Bool) : Type 0 where
  pub sought : Slots
  pub at : AreAtPlaces found shape sought
  pub places : length sought ≡ 16
  pub told : has ≡ is_among keys sought

-- whether they are so at the places of one of the shapes
abbrev pub HasAnySought : List Slots → Slots → List Slots → Bool → Type 0
HasAnySought keys found shapes true = (shape : Slots) × IsSought keys found shape true
HasAnySought keys found shapes false = AllByRecursion (λ shape. IsSought keys found shape false) shapes
