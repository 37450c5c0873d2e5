-- Laws on reading what is kept.
use Rattle.std.specs.Prelude.{◌≡◌, ◌≤◌, length, true, false}
use Rattle.semantics.specs.Texts.{Text, Range, Table, within, pairs_within}
use Rattle.semantics.specs.Patterns.{Pattern}
use Rattle.semantics.specs.Joins.{Join, is_join}
use Rattle.semantics.specs.Outputs.{out}
use Rattle.kept_ranges.specs.Kept.{Kept, is_covered, IsRight}

-- no key of both ranges of at most 512 bytes is covered
abbrev pub IsClear : Pattern → Range → Range → Kept → Type 0
IsClear output range part kept = (key : Text) → within range key ≡ true → within part key ≡ true → length key ≤ 512 → is_covered output kept.pending key ≡ false

-- where nothing pending covers a key of a part, the rows in the part are the join's output in it and the range
abbrev pub RowsAreOutput : Type 0
RowsAreOutput = (j : Join) (range part : Range) (table : Table) (kept : Kept) → is_join j ≡ true → IsRight j range table kept → IsClear j.output range part kept →
    pairs_within part kept.rows ≡ pairs_within part (pairs_within range (out j table))
