use Rattle.std.proofs.Common.{◌≡◌, drop}
use Rattle.semantics.specs.Histories.{History}
use Rattle.base_versions.specs.Own.{AreOwn}
use Rattle.base_versions.proofs.OwnLemmas.{HasTaken}
use Rattle.base_versions.proofs.base.BaseVersions.advance_own.Given as goal

-- the entries before the next one of the shard have entered, or some of them
abbrev pub invariant-loop-placed : goal.invariant-loop-placed
invariant-loop-placed l =
    record {
      start : l.self.start ≡ l.fn.self.start;
      shard : l.self.shard ≡ l.fn.self.shard;
      shards : l.self.shards ≡ l.fn.self.shards;
      taken : (es : History) → AreOwn l.fn.self l.to l.own es → HasTaken l.fn.self l.self (drop l.placed-index l.own) es;
    }
