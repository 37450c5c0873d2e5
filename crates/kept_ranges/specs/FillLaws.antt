-- Laws on filling.
use Rattle.std.specs.Prelude.{◌≡◌, true, IsTrue}
use Rattle.std.specs.FinMap.Entries.{is_sorted}
use Rattle.semantics.specs.Texts.{text_cmp, is_range, Range, Table}
use Rattle.semantics.specs.Joins.{Join, is_join}
use Rattle.growing_history.specs.Entered.{HasKeys}
use Rattle.kept_ranges.specs.Kept.{Kept, IsRight}
use Rattle.kept_ranges.specs.Rules.{IsFilled}

-- a table of pairs below a join: its keys ascend and are keys
pub record IsSource (table : Table) : Type 0 where
  pub ascending : IsTrue (is_sorted text_cmp table)
  pub keys : HasKeys table

-- what is filled is right
abbrev pub FilledIsRight : Type 0
FilledIsRight = (j : Join) (range : Range) (table : Table) (kept : Kept) → is_join j ≡ true → is_range range.low range.high ≡ true → IsSource table →
    IsFilled j range table kept → IsRight j range table kept
