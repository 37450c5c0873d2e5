-- Noted slots, each with the range that holds the keys under them.
use Rattle.std.specs.Prelude.{◌≡◌, List, map}
use Rattle.std.specs.List.{AllByRecursion}
use Rattle.semantics.specs.Patterns.{Pattern, Slots}
use Rattle.key_ranges.specs.Containing.{pattern_range}
use Rattle.lazy_log.specs.declared.log.Noted.{Noted}

-- the slots alone
abbrev pub slots_of : List Noted → List Slots
slots_of = map (λ n. n.slots)

-- the range beside the slots is the prefix range of the output under them
abbrev pub AreHeld : Pattern → List Noted → Type 0
AreHeld output = AllByRecursion (λ n. n.held ≡ pattern_range output n.slots)
