use Rattle.std.proofs.Common.{◌≡◌, List, [], ◌∷◌, option_map, unwrap_or, ap, ◌∙◌}
use Rattle.kept_ranges.specs.Notes.{Note, Notes, noted}
use Rattle.range_state.proofs.RingLemmas.{notes_of, added_one}
use Rattle.range_state.proofs.notes.Notes.add.Goals as goal

pub returns-clause-ok : goal.returns-clause-ok
returns-clause-ok c =
    let from = c.self.inside.start in
    let ring = c.make_room.new.ring in
    let made = c.in_ok-make_room.ensures in
    let pushed = c.push_back-dropped.ensures in
    let before : notes_of from ring.items ≡ c.args.self.now = ap (λ (list : List Note). notes_of from list) made.items ∙ c.self.view_is in
    let start = c.position_of-self-inside.ensures ∙ ap (λ note. unwrap_or (option_map (λ n. n.position) note) from) pushed.value in
    let list = ap (λ r. r.items) pushed.items in
    (λ i. notes_of (start i) (list i))
    ∙ added_one (notes_of from ring.items) ring.capacity c.args.note made.held made.limit made.room
    ∙ ap (λ (notes : Notes). noted notes (c.args.note ∷ [])) before
