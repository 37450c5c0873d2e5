-- Tests of segments by the place and the width of a slot.
use Rattle.std.specs.Prelude.{ℕ, ◌&&◌, ◌==◌, List, Bool, true, false, not}
use Rattle.std.specs.List.{list_any}
use Rattle.semantics.specs.Patterns.{Segment, literal, slot}

-- the segment is a slot whose place and width pass the test
abbrev pub is_slot_with : (ℕ × ℕ → Bool) → Segment → Bool
is_slot_with test (literal l) = false
is_slot_with test (slot place width) = test (place, width)

-- the segment is a literal, or a slot whose place and width pass the test
abbrev pub is_no_slot_without : (ℕ × ℕ → Bool) → Segment → Bool
is_no_slot_without test (literal l) = true
is_no_slot_without test (slot place width) = test (place, width)

-- the second slot has the place of the first and another width
abbrev pub has_other_width : ℕ × ℕ → ℕ × ℕ → Bool
has_other_width s other = s.0 == other.0 && not (s.1 == other.1)

-- a slot has another width than one of its place among these
abbrev pub differs_within : List (ℕ × ℕ) → ℕ × ℕ → Bool
differs_within slots s = list_any (has_other_width s) slots
