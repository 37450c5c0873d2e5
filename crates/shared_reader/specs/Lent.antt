-- A pass that is lent.
use Rattle.std.specs.Prelude.{◌≡◌}
use Rattle.std.specs.Borrow.{GName}
use Rattle.write_history.specs.Passes.{PassView}
use Rattle.base_shards.specs.Reading.{ReadsOn}

-- what a lent pass has seen and is, and the name of its reference, which says whose it is
pub record LentPass : Type 0 where
  pub pass : PassView
  pub lent : GName

-- it is the same reference, and the pass goes on as one that only reads
pub record LentReadsOn (old new : LentPass) : Type 0 where
  pub same : new.lent ≡ old.lent
  pub on : ReadsOn old.pass new.pass
