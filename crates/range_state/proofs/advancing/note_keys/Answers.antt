use Rattle.std.proofs.Common.{◌≡◌, ◌+◌, [], ◌∷◌, take, sym, ap, ◌∙◌}
use Rattle.kept_ranges.specs.Notes.{key, noted}
use Rattle.range_state.specs.Valued.{ValuedApplication}
use Rattle.range_state.proofs.NotingLemmas.{noted_one, notes_unvalued}
use Rattle.range_state.proofs.advancing.note_keys.Goals as goal

pub loop-one-preserved : goal.loop-one-preserved
loop-one-preserved c =
    let now = c.loop-one.notes in
    let applying = c.args.applying.now in
    let index = c.loop-one.one-index in
    let p = c.args.position in
    let one : c.add.new.self ≡ noted now (record { position = p; mark = key c.one-item.result.output } ∷ []) =
    c.in_ok-add.ensures.ok ∙ ap (λ k. noted now (record { position = p; mark = key k } ∷ [])) (c.in_ok-copy.ensures ∙ ap (λ (a : ValuedApplication). a.output) c.one.view_is) in
    noted_one (λ (a : ValuedApplication). record { position = p; mark = key a.output }) c.args.notes.now now c.add.new.self applying index c.one-item.result c.loop-one-test.true c.one-item.is
    (c.loop-one.invariant ∙ ap (noted c.args.notes.now) (notes_unvalued p (take index applying))) one
    ∙ ap (noted c.args.notes.now) (sym (notes_unvalued p (take (index + 1) applying)))
