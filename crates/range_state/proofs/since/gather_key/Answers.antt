use Rattle.std.proofs.Common.{◌≡◌, ◌<◌, List, nat_lt, false, sym, ◌∙◌, ap, subst, arith}
use Rattle.std.proofs.lemmas.Bool.Decides.{nat_tests}
use Rattle.std.specs.BTreeSet.{BTreeSet}
use Rattle.semantics.specs.Texts.{Text}
use Rattle.kept_ranges.specs.Notes.{Note, key}
use Rattle.range_state.specs.PlainNotes.{plain_mark}
use Rattle.range_state.specs.NotesSince.{key_after, GathersMore}
use Rattle.range_state.proofs.SinceLemmas.{gathers_note, gathers_outside, gathers_earlier}
use Rattle.range_state.proofs.since.gather_key.Goals.{then-since-note+then-contains+in_ok-copy-in-Key+in_ok-insert-in-Key, else-since-note, else-since-note-via-then-since-note+else-contains, else-since-note-via-else-since-note}
use Rattle.range_state.proofs.since.gather_key.Goals as goal

pub returns-after-since-note : goal.returns-after-since-note
returns-after-since-note c =
    let view = c.note.view_is in
    let range = c.args.range.now in
    let note = c.args.note.now in
    let old = c.args.sorted.now.keys in
    let at : c.note.inside.position ≡ note.position = ap (λ (n : Note). n.position) view in
    let of : note.mark ≡ key c.in-Key.key = sym (ap (λ (n : Note). n.mark) view) ∙ ap plain_mark c.in-Key.is in
    elim c.if-since-note.branch [
      | then-since-note+then-contains+in_ok-copy-in-Key+in_ok-insert-in-Key w ↦
          let copied = w.in_ok-copy-in-Key.ensures in
          let inserted = w.in_ok-insert-in-Key.ensures.keys in
          let is : c.if-since-note.sorted.keys ≡ w.insert.new.self.keys = ap (λ s. s.keys) w.sorted-is in
          gathers_note range c.args.since note c.in-Key.key old c.if-since-note.sorted.keys (omega (arith, w.if-since-note.true, at)) of (sym w.contains.ensures ∙ w.if-contains.true) (cc)
      | else-since-note w ↦
          let is : c.if-since-note.sorted.keys ≡ old = ap (λ s. s.keys) w.sorted-is in
          subst (λ (new : List Text). GathersMore range (key_after c.args.since note) old new) (sym is) (elim w.else-since-note.branch [
            | else-since-note-via-then-since-note+else-contains w' ↦
                gathers_outside range c.args.since note c.in-Key.key old (omega (arith, w'.if-since-note.true, at)) of (sym w'.contains.ensures ∙ w'.if-contains.false)
            | else-since-note-via-else-since-note w' ↦
                gathers_earlier range c.args.since note old (grind (arith, nat_tests, w'.if-since-note.false, at))
          ])
    ]
