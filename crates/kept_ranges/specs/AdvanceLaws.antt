-- Laws on advancing a copy join.
use Rattle.std.specs.Prelude.{◌≡◌, List, Contains, true, false}
use Rattle.std.specs.List.{AllByRecursion}
use Rattle.semantics.specs.Texts.{Text, Table, Range, value_at, within}
use Rattle.semantics.specs.Joins.{Join}
use Rattle.semantics.specs.Outputs.{out}
use Rattle.semantics.specs.OutputLaws.{IsCopyJoin}
use Rattle.range_evaluation.specs.Trees.{Need}
use Rattle.kept_ranges.specs.Kept.{Kept, is_covered, IsRight}
use Rattle.kept_ranges.specs.Rules.{applications, IsCut, IsAdvanced}
use Rattle.kept_ranges.specs.Listing.{IsApplied}
use Rattle.kept_ranges.specs.FillLaws.{IsSource}

-- at each key of a need's range that is not reported two tables have the same
abbrev pub AreReported : List Need → List Text → Table → Table → Type 0
AreReported needs reported table other = AllByRecursion (λ need. (key : Text) → within need.range key ≡ true → (Contains reported key → ⊥) → value_at key table ≡ value_at key other) needs

-- what is right for a table is right for another one after an advance to it
abbrev pub AdvancedIsRight : Type 0
AdvancedIsRight = (j : Join) (range : Range) (reported : List Text) (table other : Table) (before after : Kept) → IsCopyJoin j → IsSource table → IsSource other →
    IsRight j range table before → AreReported before.needs reported table other → IsAdvanced j range reported other before after → IsRight j range other after

-- at a key of the range that is neither covered after an advance nor applied by it, the join's output is the same over each table that differs at reported keys alone
abbrev pub UnappliedIsSame : Type 0
UnappliedIsSame = (j : Join) (range : Range) (reported : List Text) (table other : Table) (before after : Kept) (key : Text) → IsCopyJoin j → IsSource table → IsSource other →
    IsRight j range table before → AreReported before.needs reported table other → IsCut j reported before after →
    within range key ≡ true → is_covered j.output after.pending key ≡ false → (IsApplied (applications j range after.pending reported after.needs) key → ⊥) →
    value_at key (out j other) ≡ value_at key (out j table)
