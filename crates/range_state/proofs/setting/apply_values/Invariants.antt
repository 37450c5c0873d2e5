use Rattle.std.proofs.Common.{◌≡◌, take}
use Rattle.range_state.specs.Valued.{set_each}
use Rattle.range_state.proofs.setting.apply_values.Given as goal

abbrev pub invariant-loop-application : goal.invariant-loop-application
invariant-loop-application l = record {
  needs : l.rows.needs ≡ l.fn.rows.needs;
  pairs : l.rows.pairs ≡ set_each (take l.application-index l.applications) l.fn.rows.pairs;
}
