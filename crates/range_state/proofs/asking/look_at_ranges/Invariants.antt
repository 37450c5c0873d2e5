use Rattle.std.proofs.Common.{take}
use Rattle.range_state.specs.Asking.{HaveRanges}
use Rattle.range_state.proofs.asking.look_at_ranges.Given as goal

abbrev pub invariant-loop-need : goal.invariant-loop-need
invariant-loop-need l = HaveRanges (take l.need-index l.needs)
