-- What the lowest reader keeps of its entries.
use Rattle.std.specs.Prelude.{◌≡◌, ◌≤◌, length, take}
use Rattle.semantics.specs.Histories.{History}
use Rattle.growing_history.specs.Entered.{HasEntered}
use Rattle.base_versions.specs.Kept.{Kept, StandsFor}
use Rattle.join_set.specs.Summaries as summaries

-- the entries entered; the versions stand for the first of them, of all tables; and the summary stands for all, and lets no join go
pub record HoldsEntries (entries : History) (base : Kept) (standing : summaries.Summary) : Type 0 where
  pub entered : HasEntered entries
  pub reaches : base.position ≤ length entries
  pub versions : StandsFor 0 base (take base.position entries)
  pub shard : base.shard ≡ 0
  pub shards : base.shards ≡ 1
  pub summary : summaries.StandsFor standing entries
  pub unsettled : standing.floor ≡ 0
