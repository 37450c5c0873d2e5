use Rattle.std.proofs.Common.{length}
use Rattle.base_versions.specs.Named.{named}
use Rattle.base_versions.specs.Kept.{EachHasKeyOrChange, IsTrimmedTo}
use Rattle.base_versions.proofs.base.trim_tables.Given as goal

-- the tables are trimmed, as far as changes were taken out, and none is left without a key and a change
abbrev pub invariant-loop-change : goal.invariant-loop-change
invariant-loop-change l =
    IsTrimmedTo l.to (named l.fn.tables.entries) (named l.tables.entries) × (EachHasKeyOrChange (named l.fn.tables.entries) → EachHasKeyOrChange (named l.tables.entries))

abbrev pub decreases-loop-change : goal.decreases-loop-change
decreases-loop-change l = length l.entered.items
