use Rattle.std.proofs.Common.{◌≡◌, ℕ, ◌+◌, ◌++◌, take}
use Rattle.semantics.specs.Histories.{History}
use Rattle.base_versions.specs.Kept.{StandsFor}
use Rattle.base_versions.proofs.base.BaseVersions.advance.Given as goal

abbrev pub invariant-loop-entry : goal.invariant-loop-entry
invariant-loop-entry l =
    record {
      position : l.self.position ≡ l.fn.self.position + l.entry-index;
      start : l.self.start ≡ l.fn.self.start;
      shard : l.self.shard ≡ l.fn.self.shard;
      shards : l.self.shards ≡ l.fn.self.shards;
      history : (start : ℕ) (h : History) → StandsFor start l.fn.self h → StandsFor start l.self (h ++ take l.entry-index l.entries);
    }
