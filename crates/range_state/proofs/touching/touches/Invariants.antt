use Rattle.std.proofs.Common.{◌≡◌, take}
use Rattle.kept_ranges.specs.Rules.{touches}
use Rattle.join_eval.specs.Answers.{change_keys}
use Rattle.range_state.proofs.touching.touches.Given as goal

abbrev pub invariant-loop-need : goal.invariant-loop-need
invariant-loop-need l = l.list.items ≡ touches l.join (change_keys l.reported) (take l.need-index l.needs)
