use Rattle.std.proofs.Common.{◌+◌, arith}
use Rattle.std.proofs.lemmas.List.{length-map}
use Rattle.key_pattern.specs.Plain.{plain_segment, plain_segments}
use Rattle.cell_slots.proofs.SlotLemmas.{none_behind, some_behind}
use Rattle.cell_slots.proofs.slots.is_last_at.Goals as goal

pub returns-then-place-output : goal.returns-then-place-output
returns-then-place-output c = some_behind (plain_segments c.args.output.now) (c.args.place + 1) (omega (arith, length-map c.args.output.now plain_segment))

pub returns : goal.returns
returns c = none_behind (plain_segments c.args.output.now) (c.args.place + 1) (omega (arith, length-map c.args.output.now plain_segment))
