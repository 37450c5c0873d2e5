-- the line under way has not ended
use Rattle.std.proofs.Common.{◌≡◌, false}
use Rattle.join_trials.proofs.pieces.feed_pieces.Given as goal

abbrev pub invariant-loop-field : goal.invariant-loop-field
invariant-loop-field l =
    (goal.iterator-loop-field).can_next l.field-iterator
    × (goal.iterator-loop-field).is_finite l.field-iterator
    × (l.lines.ended ≡ false)
