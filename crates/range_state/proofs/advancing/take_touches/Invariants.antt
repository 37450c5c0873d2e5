use Rattle.std.proofs.Common.{◌≡◌, ◌≤◌, ◌++◌, length, map}
use Rattle.kept_ranges.specs.Notes.{note_limit, noted}
use Rattle.range_state.specs.Advanced.{touch_notes}
use Rattle.range_state.proofs.NotingLemmas.{AddsRest, NotesRest}
use Rattle.range_state.proofs.advancing.take_touches.Given as goal

abbrev pub invariant-loop-touch : goal.invariant-loop-touch
invariant-loop-touch l = record {
  output : l.pending.output ≡ l.fn.pending.output;
  keys : l.keys.items ++ map (λ t. t.key) l.touch-iterator.rest.items ≡ map (λ t. t.key) l.fn.touched.items;
  pending : AddsRest l.fn.touched.items l.touch-iterator.rest.items l.fn.pending.noted l.pending.noted;
  once : NotesRest l.fn.touched.items l.touch-iterator.rest.items l.fn.pending.noted l.pending.noted;
  notes : noted l.notes (touch_notes l.position l.touch-iterator.rest.items) ≡ noted l.fn.notes (touch_notes l.position l.fn.touched.items);
  few : length l.notes.list ≤ note_limit;
}
