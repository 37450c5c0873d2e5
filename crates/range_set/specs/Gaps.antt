-- Gaps between two bounds.
use Rattle.std.specs.Prelude.{List, [], ◌∷◌, if◌then◌else◌}
use Rattle.semantics.specs.Texts.{Text}
use Rattle.key_ranges.specs.Ranges.{is_below}
use Rattle.range_set.specs.declared.piece.Piece.{Piece}
use Rattle.range_set.specs.declared.piece.Piece.TheVariants.{Gap}

-- the gap from one bound to another, where the first is below the second
abbrev pub gap_between : {T : Type 0} → Text → Text → List (Piece T)
gap_between low high = if is_below low high then Gap (record { low = low; high = high }) ∷ [] else []
