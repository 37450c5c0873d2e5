use Rattle.std.proofs.Common.{Result, Ok}
use Rattle.std.specs.Prelude.{⊤}
use Rattle.growing_history.proofs.PrefixLemmas.{prefix_refl}
use Rattle.range_state.proofs.ReadLemmas.{sound_where}
use Rattle.cell_slots.proofs.AdvancedLemmas.{mended_over}
use Rattle.scan_core.proofs.cell_events.mend.Goals as goal

pub returns-clause-mended : goal.returns-clause-mended
returns-clause-mended g c = λ q stands.
    let h = g.R.Reader.list c.args.reader.now in
    let done : Result ⊤ ⊤ = Ok tt in
    let mended = c.in_ok-mend.ensures in
    mended_over done h h q c.args.range.now c.args.state.now c.mend.new.self c.args.steps.now c.mend.new.steps (prefix_refl h) (sound_where c.args.state.now h q stands c.requires.sound).place stands
    mended.same mended.at mended.left mended.needs mended.notes mended.least mended.cost
