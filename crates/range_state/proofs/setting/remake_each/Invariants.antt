use Rattle.std.proofs.Common.{◌≡◌, take}
use Rattle.range_state.specs.Setting.{remade}
use Rattle.range_state.proofs.setting.remake_each.Given as goal

abbrev pub invariant-loop-output : goal.invariant-loop-output
invariant-loop-output l = record {
  needs : l.rows.needs ≡ l.fn.rows.needs;
  pairs : l.rows.pairs ≡ remade l.groups (take l.output-index l.outputs) l.fn.rows.pairs;
}
