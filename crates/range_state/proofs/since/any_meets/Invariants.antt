use Rattle.std.proofs.Common.{◌≡◌, take, false}
use Rattle.std.specs.List.{list_any}
use Rattle.range_state.specs.NotesSince.{meets_after}
use Rattle.range_state.proofs.since.any_meets.Given as goal

abbrev pub invariant-loop-note : goal.invariant-loop-note
invariant-loop-note l = list_any (meets_after l.output l.since l.range) (take l.note-index l.notes) ≡ false
