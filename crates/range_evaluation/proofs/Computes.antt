-- What an answer unfolds to compute the definitions on literals.
use Rattle.std.specs.Prelude.{⊤}
use Rattle.semantics.specs.Patterns.{no_slots}
use Rattle.key_ranges.specs.Containing.{bind_range, range_slots, pattern_range, containing}
use Rattle.range_evaluation.specs.Trees.{tree}
use Rattle.range_evaluation.specs.Contributions.{listed_contributions}

unfoldable pub definitions_on_literals : ⊤
unfolding no_slots bind_range range_slots pattern_range containing tree listed_contributions
definitions_on_literals = tt
