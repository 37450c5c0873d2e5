use Rattle.std.proofs.Common.{◌≡◌, [], length, sym, ap, ◌∙◌}
use Rattle.write_history.specs.Marks.{before}
use Rattle.write_history.specs.Steps.{Sat, held_by, held_or}
use Rattle.write_history.specs.declared.known.Mark.TheVariants.{Pinned}
use Rattle.write_history.proofs.turn.look_and_pin.Goals as goal

pub pin-requires-clause-number : goal.pin-requires-clause-number
pin-requires-clause-number c = ap (λ (x : Sat). x.0.role) c.look_joins.ensures.seen ∙ c.requires.number

pub pin-requires-clause-held : goal.pin-requires-clause-held
pin-requires-clause-held c =
    let has = c.requires.log in
    (has.0, ap (λ (x : Sat). x.0.held) c.look_joins.ensures.seen ∙ has.2.held, c.in_ok-looked.ensures.count ∙ ap (λ held. length (held_or [] held)) has.2.held)

pub pin-requires-clause-free : goal.pin-requires-clause-free
pin-requires-clause-free c = ap (λ (x : Sat). x.0.mark) c.look_joins.ensures.seen ∙ c.requires.free

pub returns-clause-pinned : goal.returns-clause-pinned
returns-clause-pinned c =
    let me = c.args.place.now.me in
    let count = c.in_ok-looked.looked.length in
    c.pin.ensures.pinned
    ∙ ap (λ (x : Sat). (record x.0 { mark = Pinned count; passed = 0 }, x.1)) c.look_joins.ensures.seen
    ∙ ap (λ n. (record me.0 { mark = Pinned count; seen = held_by me.0; passed = 0; low = before n }, me.1)) (sym c.in_ok-looked.ensures.count)
