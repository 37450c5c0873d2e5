use Rattle.std.proofs.Common.{rules, ◌≡◌, Some, slice_get, ◌≤◌, subst}
use Rattle.semantics.specs.Histories.{IsPrefix}
use Rattle.growing_history.specs.Entered.{HasEntered}
use Rattle.cell_slots.specs.declared.slot.Slot.TheVariants.{Lent, Held}
use Rattle.cell_slots.specs.Slots.{IsRightFor, with_slot}
use Rattle.rank_layers.proofs.PartLemmas.{of_lender, of_borrowed}
use Rattle.scan_core.specs.Rights.{Contents}
use Rattle.scan_core.proofs.ReaderLemmas.{taken_out, where_some, small_rank, still_there, right_same, held_back, places_back, none_lent_back, mended_from, mend_cost_from}
use Rattle.scan_core.proofs.reading.mend_cell.Goals as goal

pub mend-mended-requires-clause-ranked : goal.mend-mended-requires-clause-ranked
mend-mended-requires-clause-ranked g c = λ some.
    let t = taken_out c.args.core.now.history c.args.id c.args.core.now.cells c.take.new.self.cells c.in_ok-at.field-0 c.in-Some.at c.in-Some.state c.in-Some.is c.in_ok-at.ensures.taken in
    where_some c.in-Some.state.position (c.in-Some.state.rank ≤ 8) (small_rank c.args.core.now.history c.in-Some.state (subst HasEntered c.take.ensures.history c.look.ensures.entered) t.right.sound) some

pub give_back-requires-clause-lent : goal.give_back-requires-clause-lent
give_back-requires-clause-lent g c =
    let t = taken_out c.args.core.now.history c.args.id c.args.core.now.cells c.take.new.self.cells c.in_ok-at.field-0 c.in-Some.at c.in-Some.state c.in-Some.is c.in_ok-at.ensures.taken in
    of_lender (λ (core : Contents). slice_get core.cells.slots c.args.id ≡ Some (Lent c.in-Some.at c.mend-mended.new.state.range)) {lender = c.core-1.given.0} {borrowed = c.mend-mended.new.reader.lowest.now}
    (still_there c.args.core.now.cells c.take.new.self.cells c.mend-mended.new.reader.lowest.now.cells c.args.id c.in-Some.at c.in-Some.state c.mend-mended.new.state.range t.held t.lent c.mend-mended.ensures.moves.on.1 c.mend-mended.ensures.same.range)
    (search rules)

pub give_back-requires-clause-right : goal.give_back-requires-clause-right
give_back-requires-clause-right g c =
    let t = taken_out c.args.core.now.history c.args.id c.args.core.now.cells c.take.new.self.cells c.in_ok-at.field-0 c.in-Some.at c.in-Some.state c.in-Some.is c.in_ok-at.ensures.taken in
    of_lender (λ (core : Contents). IsRightFor core.history c.in-Some.at c.mend-mended.new.state) {lender = c.core-1.given.0} {borrowed = c.mend-mended.new.reader.lowest.now}
    (right_same c.args.core.now.history c.mend-mended.new.reader.lowest.now.history c.in-Some.at c.in-Some.state c.mend-mended.new.state
    (subst (λ h. IsPrefix h c.mend-mended.new.reader.lowest.now.history) c.take.ensures.history c.mend-mended.ensures.moves.kept) t.right c.mend-mended.ensures.same c.mend-mended.ensures.sound)
    (search rules)

pub returns-clause-mended : goal.returns-clause-mended
returns-clause-mended g c =
    let t = taken_out c.args.core.now.history c.args.id c.args.core.now.cells c.take.new.self.cells c.in_ok-at.field-0 c.in-Some.at c.in-Some.state c.in-Some.is c.in_ok-at.ensures.taken in
    let back : c.give_back.new.self.cells ≡ with_slot c.args.id (Held c.in-Some.at c.mend-mended.new.state) c.mend-mended.new.reader.lowest.now.cells =
    of_borrowed (λ (core : Contents). c.give_back.new.self.cells ≡ with_slot c.args.id (Held c.in-Some.at c.mend-mended.new.state) core.cells) {lender = c.core-1.given.0} {borrowed = c.mend-mended.new.reader.lowest.now} c.give_back.ensures.held (search rules) in
    let there = still_there c.args.core.now.cells c.take.new.self.cells c.mend-mended.new.reader.lowest.now.cells c.args.id c.in-Some.at c.in-Some.state c.mend-mended.new.state.range t.held t.lent c.mend-mended.ensures.moves.on.1 c.mend-mended.ensures.same.range in
    mended_from c.mend-mended.result c.args.core.now.history c.take.new.self.history c.args.core.now.cells.slots c.give_back.new.self.cells.slots c.args.id c.in-Some.at c.args.range.now c.in-Some.state c.mend-mended.new.state
    c.args.steps.now c.mend-mended.new.steps c.take.ensures.history t.held
    (held_back c.mend-mended.new.reader.lowest.now.cells c.give_back.new.self.cells c.args.id c.in-Some.at c.mend-mended.new.state there back)
    c.mend-mended.ensures.same.range
    (places_back c.args.core.now.cells c.take.new.self.cells c.mend-mended.new.reader.lowest.now.cells c.give_back.new.self.cells c.args.id c.in-Some.at c.in-Some.state c.mend-mended.new.state t.held t.lent c.mend-mended.ensures.moves.on.1 there back c.mend-mended.ensures.same.range)
    c.mend-mended.ensures.at c.mend-mended.ensures.clear c.mend-mended.ensures.mended

pub returns-clause-cost : goal.returns-clause-cost
returns-clause-cost g c =
    let t = taken_out c.args.core.now.history c.args.id c.args.core.now.cells c.take.new.self.cells c.in_ok-at.field-0 c.in-Some.at c.in-Some.state c.in-Some.is c.in_ok-at.ensures.taken in
    mend_cost_from c.mend-mended.result c.args.core.now.history c.take.new.self.history c.args.core.now.cells.slots c.args.id c.in-Some.at c.args.steps.now c.mend-mended.new.steps c.args.range.now c.in-Some.state c.mend-mended.new.state
    c.take.ensures.history t.held c.mend-mended.ensures.mended

pub returns-clause-unlent : goal.returns-clause-unlent
returns-clause-unlent g c =
    let t = taken_out c.args.core.now.history c.args.id c.args.core.now.cells c.take.new.self.cells c.in_ok-at.field-0 c.in-Some.at c.in-Some.state c.in-Some.is c.in_ok-at.ensures.taken in
    let back : c.give_back.new.self.cells ≡ with_slot c.args.id (Held c.in-Some.at c.mend-mended.new.state) c.mend-mended.new.reader.lowest.now.cells =
    of_borrowed (λ (core : Contents). c.give_back.new.self.cells ≡ with_slot c.args.id (Held c.in-Some.at c.mend-mended.new.state) core.cells) {lender = c.core-1.given.0} {borrowed = c.mend-mended.new.reader.lowest.now} c.give_back.ensures.held (search rules) in
    let there = still_there c.args.core.now.cells c.take.new.self.cells c.mend-mended.new.reader.lowest.now.cells c.args.id c.in-Some.at c.in-Some.state c.mend-mended.new.state.range t.held t.lent c.mend-mended.ensures.moves.on.1 c.mend-mended.ensures.same.range in
    none_lent_back c.args.core.now.cells c.take.new.self.cells c.mend-mended.new.reader.lowest.now.cells c.give_back.new.self.cells c.args.id c.in-Some.at c.in-Some.state c.mend-mended.new.state t.lent c.mend-mended.ensures.moves.on.1 there back
