use Rattle.std.proofs.Common.{◌≡◌, take}
use Rattle.kept_ranges.specs.Notes.{noted}
use Rattle.range_state.specs.Valued.{all_unvalued}
use Rattle.range_state.specs.Advanced.{key_notes}
use Rattle.range_state.proofs.advancing.note_keys.Given as goal

abbrev pub invariant-loop-one : goal.invariant-loop-one
invariant-loop-one l = l.notes ≡ noted l.fn.notes (key_notes l.position (all_unvalued (take l.one-index l.applying)))
