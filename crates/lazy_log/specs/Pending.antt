-- Slots of an output that were noted.
use Rattle.std.specs.Prelude.{◌≡◌, ◌⊎◌, List, [], ◌∷◌, ◌++◌, Contains, Bool, false, Option, Some, None}
use Rattle.semantics.specs.Texts.{Range}
use Rattle.semantics.specs.Patterns.{Pattern, Slots}
use Rattle.key_ranges.specs.Ranges.{meets}
use Rattle.key_ranges.specs.Containing.{pattern_range}

-- an output, and the slots of it that were noted, in the order of noting
pub record PendingSlots : Type 0 where
  pub output : Pattern
  pub noted : List Slots

-- the slots are noted already and all stays, or they are not and come last
abbrev pub NotesOnce : Slots → List Slots → List Slots → Type 0
NotesOnce slots old new = (Contains old slots × (new ≡ old)) ⊎ ((Contains old slots → ⊥) × (new ≡ old ++ slots ∷ []))

-- whether there is a range, and it meets the other
abbrev pub meets_held : Option Range → Range → Bool
meets_held None range = false
meets_held (Some held) range = meets held range

-- whether the prefix range of the output under the slots meets the range; slots without one meet none
abbrev pub meets_output : Pattern → Range → Slots → Bool
meets_output output range slots = meets_held (pattern_range output slots) range
