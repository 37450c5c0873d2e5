-- Laws on mending.
use Rattle.std.specs.Prelude.{◌≡◌, Contains, true}
use Rattle.semantics.specs.Texts.{is_range, Range, Table}
use Rattle.semantics.specs.Patterns.{Slots}
use Rattle.semantics.specs.Joins.{Join, is_join}
use Rattle.kept_ranges.specs.Kept.{Kept, IsRight}
use Rattle.kept_ranges.specs.Rules.{IsMended}
use Rattle.kept_ranges.specs.FillLaws.{IsSource}

-- what is right stays right once slots that were pending are mended
abbrev pub MendedIsRight : Type 0
MendedIsRight = (j : Join) (range : Range) (table : Table) (slots : Slots) (before after : Kept) → is_join j ≡ true → is_range range.low range.high ≡ true → IsSource table → Contains before.pending slots →
    IsRight j range table before → IsMended j range table slots before after → IsRight j range table after
