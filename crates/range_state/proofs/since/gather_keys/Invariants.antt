use Rattle.std.proofs.Common.{flat_map, take}
use Rattle.range_state.specs.NotesSince.{GathersMore, key_after}
use Rattle.range_state.proofs.since.gather_keys.Given as goal

abbrev pub invariant-loop-note : goal.invariant-loop-note
invariant-loop-note l = GathersMore l.range (flat_map (key_after l.since) (take l.note-index l.notes)) l.fn.sorted.keys l.sorted.keys
