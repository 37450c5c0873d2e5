use Rattle.std.proofs.Common.{◌≡◌, ◌++◌, filter_map, take}
use Rattle.kept_ranges.specs.Rules.{touch_of}
use Rattle.join_eval.specs.Answers.{change_keys}
use Rattle.range_state.proofs.touching.touch_keys.Given as goal

abbrev pub invariant-loop-change : goal.invariant-loop-change
invariant-loop-change l = l.list.items ≡ l.fn.list.items ++ filter_map (touch_of l.join l.need l.source) (change_keys (take l.change-index l.changes))
