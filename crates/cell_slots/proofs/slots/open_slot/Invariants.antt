use Rattle.std.proofs.Common.{drop}
use denote.Shadow.{shadow}
use denote.Text.{Utf8}
use Rattle.key_pattern.specs.Plain.{plain_segments}
use Rattle.cell_slots.proofs.SlotLemmas.{IsLeft}
use Rattle.cell_slots.proofs.slots.open_slot.Given as goal

-- the segments from this place on are left for the rest
abbrev pub invariant-loop-place : goal.invariant-loop-place
invariant-loop-place l = record {
  rest_text : shadow (Utf8 l.rest);
  left : IsLeft (plain_segments l.output) (drop l.place (plain_segments l.output)) l.fn.bound l.rest;
}
