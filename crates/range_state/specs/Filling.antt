-- When a changed key of the value source can fill its output key through a need.
use Rattle.std.specs.Prelude.{◌≡◌, [], ◌∷◌, false, Some}
use Rattle.semantics.specs.Joins.{is_check, Source, Join}
use Rattle.range_evaluation.specs.Trees.{Need}
use Rattle.operators.specs.Evaluation.{CanGoOn}
use Rattle.kept_ranges.specs.Rules.{source_of}

-- where a need is of a source that is no check, each slot of the output has its text in the need's slots, or occurs in that source
abbrev pub CanFill : Join → Need → Type 0
CanFill j need = (source : Source) → source_of j need ≡ Some source → is_check source.operator ≡ false → CanGoOn j.output (source ∷ []) need.slots
