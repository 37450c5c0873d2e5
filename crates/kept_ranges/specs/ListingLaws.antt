-- Laws on aggregates: what is listed once a range is filled, and after an advance.
use Rattle.std.specs.Prelude.{◌≡◌, [], List, true, IsTrue}
use Rattle.std.specs.FinMap.Entries.{is_sorted}
use Rattle.semantics.specs.Texts.{Text, text_cmp, Range, Table, value_at, within}
use Rattle.semantics.specs.Joins.{is_aggregate, Join, is_join, value_operator}
use Rattle.semantics.specs.Outputs.{out}
use Rattle.semantics.specs.States.{KeepsRules}
use Rattle.kept_ranges.specs.Kept.{Kept, IsRight}
use Rattle.kept_ranges.specs.Rules.{applications}
use Rattle.kept_ranges.specs.Listing.{AreListed, listed_after, answer_of, IsApplied}
use Rattle.kept_ranges.specs.FillLaws.{IsSource}
use Rattle.kept_ranges.specs.AdvanceLaws.{AreReported}

-- an aggregate join that keeps the rules
pub record IsAggregateJoin (j : Join) : Type 0 where
  pub is_join : is_join j ≡ true
  pub rules : KeepsRules j
  pub aggregates : is_aggregate (value_operator j) ≡ true

-- at each output key the operator makes of what is listed what the join makes of the table
abbrev pub ListedMakeRows : Type 0
ListedMakeRows = (j : Join) (range : Range) (table : Table) (listing : Text → Table) (key : Text) → IsAggregateJoin j → IsSource table → AreListed j range table listing → within range key ≡ true →
    answer_of (value_operator j) (listing key) ≡ value_at key (out j table)

-- the state of an aggregate after an advance: nothing is pending, the needs stay, each application lists its pair, and the rows of the keys that are applied are made anew
pub record IsRelisted (j : Join) (range : Range) (reported : List Text) (table : Table) (before after : Kept) (listing relisted : Text → Table) : Type 0 where
  pub needs : after.needs ≡ before.needs
  pub pending : after.pending ≡ before.pending
  pub listed : (key : Text) → relisted key ≡ listed_after table (applications j range before.pending reported before.needs) key (listing key)
  pub ascending : IsTrue (is_sorted text_cmp after.rows)
  pub made : (key : Text) → IsApplied (applications j range before.pending reported before.needs) key → value_at key after.rows ≡ answer_of (value_operator j) (relisted key)
  pub others : (key : Text) → (IsApplied (applications j range before.pending reported before.needs) key → ⊥) → value_at key after.rows ≡ value_at key before.rows

-- what is listed for a table is, after an advance, what is listed for the other one
abbrev pub RelistedAreListed : Type 0
RelistedAreListed = (j : Join) (range : Range) (reported : List Text) (table other : Table) (before after : Kept) (listing relisted : Text → Table) → IsAggregateJoin j → IsSource table → IsSource other →
    IsRight j range table before → before.pending ≡ [] → AreListed j range table listing → AreReported before.needs reported table other → IsRelisted j range reported other before after listing relisted →
    AreListed j range other relisted

-- and what is kept is right for the other one
abbrev pub RelistedIsRight : Type 0
RelistedIsRight = (j : Join) (range : Range) (reported : List Text) (table other : Table) (before after : Kept) (listing relisted : Text → Table) → IsAggregateJoin j → IsSource table → IsSource other →
    IsRight j range table before → before.pending ≡ [] → AreListed j range table listing → AreReported before.needs reported table other → IsRelisted j range reported other before after listing relisted →
    IsRight j range other after

-- at a key of the range that is not applied the output of an aggregate is the same over each table that differs at reported keys alone
abbrev pub UnlistedIsSame : Type 0
UnlistedIsSame = (j : Join) (range : Range) (reported : List Text) (table other : Table) (before : Kept) (key : Text) → IsAggregateJoin j → IsSource table → IsSource other →
    IsRight j range table before → before.pending ≡ [] → AreReported before.needs reported table other → within range key ≡ true →
    (IsApplied (applications j range before.pending reported before.needs) key → ⊥) → value_at key (out j other) ≡ value_at key (out j table)
