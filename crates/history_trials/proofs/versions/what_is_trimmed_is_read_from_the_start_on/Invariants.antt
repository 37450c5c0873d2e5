use Rattle.std.proofs.Common.{◌≡◌}
use Rattle.history_trials.proofs.versions.what_is_trimmed_is_read_from_the_start_on.Given as goal

abbrev pub invariant-loop-to : goal.invariant-loop-to
invariant-loop-to g l = record {
  shard : l.base.shard ≡ 0;
  shards : l.base.shards ≡ 1;
}
