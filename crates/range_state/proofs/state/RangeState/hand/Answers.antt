use Rattle.std.proofs.Common.{◌≡◌, ◌+◌, length, sym, ap, ◌∙◌}
use Rattle.semantics.specs.Texts.{pairs_within}
use Rattle.kept_ranges.specs.Sound.{KeptRange}
use Rattle.join_types.proofs.SinkLemmas.{got_as}
use Rattle.range_state.specs.Held.{view_of, range_kept}
use Rattle.range_state.proofs.ReadLemmas.{rows_at, sound_where, sound_join}
use Rattle.range_state.proofs.state.RangeState.hand.Goals as goal

pub returns-clause-rows : goal.returns-clause-rows
returns-clause-rows g c =
    let view : range_kept c.self.inside.subject c.in-Some.held ≡ c.args.self.now = sym (ap (view_of c.self.inside.subject) c.in-Some.is) ∙ c.self.view_is in
    got_as g.K.RowSink.got c.args.sink.now c.hand_within.new.sink (pairs_within c.args.range.now (range_kept c.self.inside.subject c.in-Some.held).kept.rows) (pairs_within c.args.range.now c.args.self.now.kept.rows)
    (ap (λ (s : KeptRange). pairs_within c.args.range.now s.kept.rows) view) c.in_ok-count.ensures.rows

pub returns-clause-output : goal.returns-clause-output
returns-clause-output g c = λ h q entered stands sound.
    rows_at c.args.self.now h q c.args.range.now (sound_join c.args.self.now h q entered (sound_where c.args.self.now h q stands sound)) (sound_where c.args.self.now h q stands sound) c.requires.clear

pub returns-in_err-count-clause-output : goal.returns-in_err-count-clause-output
returns-in_err-count-clause-output g c = λ h q entered stands sound.
    rows_at c.args.self.now h q c.args.range.now (sound_join c.args.self.now h q entered (sound_where c.args.self.now h q stands sound)) (sound_where c.args.self.now h q stands sound) c.requires.clear

pub returns-clause-cost : goal.returns-clause-cost
returns-clause-cost g c =
    let view : range_kept c.self.inside.subject c.in-Some.held ≡ c.args.self.now = sym (ap (view_of c.self.inside.subject) c.in-Some.is) ∙ c.self.view_is in
    c.count_call.ensures ∙ ap (λ n. c.args.steps.now + 1 + n) (c.in_ok-count.ensures.number ∙ ap (λ (s : KeptRange). length (pairs_within c.args.range.now s.kept.rows)) view)
