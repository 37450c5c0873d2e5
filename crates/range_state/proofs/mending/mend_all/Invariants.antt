use Rattle.std.proofs.Common.{◌≡◌, ◌+◌, ◌≤◌, ◌++◌, length, take}
use Rattle.std.specs.List.{AllByRecursion}
use Rattle.semantics.specs.States.{below}
use Rattle.growing_history.specs.Entered.{HasEntered}
use Rattle.join_eval.specs.Bounds.{Allows, most_of}
use Rattle.join_eval.specs.Moves.{Moves}
use Rattle.kept_ranges.specs.Notes.{note_limit, noted}
use Rattle.kept_ranges.specs.Sound.{IsSoundAt}
use Rattle.range_state.specs.Held.{HasPlaces, range_kept}
use Rattle.range_state.specs.Mended.{AreAllBare, KeepsPlace, steps_under, with_pending}
use Rattle.range_state.specs.Work.{mend_notes, needs_under_each}
use Rattle.range_state.proofs.MendLemmas.{AddsLeft}
use Rattle.range_state.proofs.mending.mend_all.Given as goal

abbrev pub invariant-loop-slots : goal.invariant-loop-slots
invariant-loop-slots g l = record {
  next : (goal.iterator-loop-slots g).can_next l.slots-iterator;
  finite : (goal.iterator-loop-slots g).is_finite l.slots-iterator;
  stays : KeepsPlace l.fn.held l.held;
  places : AllByRecursion (λ note. HasPlaces note.mark) l.held.notes.list;
  few : length l.held.notes.list ≤ note_limit;
  sound : IsSoundAt (with_pending (l.slots-iterator.rest.items ++ l.fn.held.pending.noted) (range_kept l.subject l.held)) (g.R.Reader.list l.reader) l.fn.held.position;
  entered : HasEntered (g.R.Reader.list l.reader);
  moves : Moves g.R.Reader.list g.R.Reader.floor g.R.Reader.went l.fn.reader l.reader;
  counted : l.fn.steps ≤ l.steps;
  needs : AddsLeft l.subject.join l.subject.range (below (take l.fn.held.position (g.R.Reader.list l.fn.reader)) l.subject.rank) l.fn.taken.items l.slots-iterator.rest.items l.fn.held.rows.needs l.held.rows.needs;
  long : length l.held.rows.needs + length (needs_under_each l.subject.join l.subject.range (below (take l.fn.held.position (g.R.Reader.list l.fn.reader)) l.subject.rank) l.slots-iterator.rest.items)
      ≤ length l.fn.held.rows.needs + length (needs_under_each l.subject.join l.subject.range (below (take l.fn.held.position (g.R.Reader.list l.fn.reader)) l.subject.rank) l.fn.taken.items);
  within : Allows (most_of l.bound) (length l.fn.held.rows.needs) → Allows (most_of l.bound) (length l.held.rows.needs);
  notes : noted l.held.notes (mend_notes l.fn.held.position l.slots-iterator.rest.items) ≡ noted l.fn.held.notes (mend_notes l.fn.held.position l.fn.taken.items);
  least : l.fn.steps + steps_under l.subject (g.R.Reader.list l.fn.reader) l.fn.held.position l.fn.taken.items ≤ l.steps + steps_under l.subject (g.R.Reader.list l.fn.reader) l.fn.held.position l.slots-iterator.rest.items;
  start : length l.fn.held.notes.list + length l.fn.taken.items ≤ note_limit → (l.held.notes.start ≡ l.fn.held.notes.start) × (length l.held.notes.list + length l.slots-iterator.rest.items ≡ length l.fn.held.notes.list + length l.fn.taken.items);
  cost : AreAllBare l.subject (g.R.Reader.list l.fn.reader) l.fn.held.position l.fn.taken.items →
      AreAllBare l.subject (g.R.Reader.list l.fn.reader) l.fn.held.position l.slots-iterator.rest.items × (l.steps + steps_under l.subject (g.R.Reader.list l.fn.reader) l.fn.held.position l.slots-iterator.rest.items ≤ l.fn.steps + steps_under l.subject (g.R.Reader.list l.fn.reader) l.fn.held.position l.fn.taken.items);
}
