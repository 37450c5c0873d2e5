use Rattle.std.proofs.Common.{◌<◌, length, ap, ◌∙◌, arith}
use Rattle.std.proofs.lemmas.Bool.{false≢true}
use Rattle.std.proofs.lemmas.Result.{on_ok_weaker}
use Rattle.base_versions.specs.Own.{is_this}
use Rattle.write_history.specs.Numbers.{Numbers, positions_of}
use Rattle.write_history.proofs.Numbering.{own_numbers, room_set, set_same}
use Rattle.write_history.proofs.part_numbers.PartNumbers.reserve.Goals as goal

pub returns-in-None-clause-room : goal.returns-in-None-clause-room
returns-in-None-clause-room c = λ part is. absurd (false≢true (ap (is_this part) c.in-None.ensures.is ∙ is))

pub returns-in-Some-clause-positions : goal.returns-in-Some-clause-positions
returns-in-Some-clause-positions c = λ other.
    let parts = c.self.inside.parts.items in
    let part = c.in-Some.part in
    let less : part < length parts = omega (arith, c.in-Some.ensures.within, c.self.invariant) in
    let own = own_numbers parts part c.index_mut.result.now less c.index_mut.ensures.value in
    set_same parts part c.reserve.new.self (c.reserve.ensures.positions ∙ ap (λ (n : Numbers). n.positions) own) other ∙ ap (positions_of other) c.self.view_is

pub returns-in-Some-clause-room : goal.returns-in-Some-clause-room
returns-in-Some-clause-room c =
    let parts = c.self.inside.parts.items in
    let part = c.in-Some.part in
    let less : part < length parts = omega (arith, c.in-Some.ensures.within, c.self.invariant) in
    on_ok_weaker c.reserve.result (λ room. λ other is. room_set parts part c.reserve.new.self less room other (ap (is_this other) c.in-Some.ensures.is ∙ is)) c.reserve.ensures.room
