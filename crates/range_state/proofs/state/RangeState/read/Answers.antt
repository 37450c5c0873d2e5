use Rattle.std.proofs.Common.{◌≡◌, sym, ap, ◌∙◌}
use Rattle.semantics.specs.Texts.{pairs_within}
use Rattle.kept_ranges.specs.Sound.{KeptRange}
use Rattle.range_state.specs.Held.{view_of, range_kept}
use Rattle.range_state.proofs.ReadLemmas.{rows_at, sound_where, sound_join}
use Rattle.range_state.proofs.state.RangeState.read.Goals as goal

pub returns-clause-output : goal.returns-clause-output
returns-clause-output g c = λ h q entered stands sound.
    let at = sound_where c.args.self.now h q stands sound in
    let view : range_kept c.self.inside.subject c.in-Some.held ≡ c.args.self.now = sym (ap (view_of c.self.inside.subject) c.in-Some.is) ∙ c.self.view_is in
    c.in_ok-pairs.ensures
    ∙ ap (λ (s : KeptRange). pairs_within c.args.range.now s.kept.rows) view
    ∙ rows_at c.args.self.now h q c.args.range.now (sound_join c.args.self.now h q entered at) at c.requires.clear
