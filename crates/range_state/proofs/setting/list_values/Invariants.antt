use Rattle.std.proofs.Common.{◌≡◌, take}
use Rattle.semantics.specs.Texts.{Text}
use Rattle.agg_rows.specs.Kept.{pairs_of}
use Rattle.range_state.specs.Valued.{list_each}
use Rattle.range_state.proofs.setting.list_values.Given as goal

abbrev pub invariant-loop-application : goal.invariant-loop-application
invariant-loop-application l = record {
  operator : l.groups.operator ≡ l.fn.groups.operator;
  listed : (key : Text) → pairs_of key l.groups.groups ≡ list_each (take l.application-index l.applications) key (pairs_of key l.fn.groups.groups);
}
