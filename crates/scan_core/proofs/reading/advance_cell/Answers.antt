use Rattle.std.proofs.Common.{rules, ◌≡◌, Some, slice_get, take, sym, subst}
use Rattle.semantics.specs.Histories.{IsPrefix, joins_of}
use Rattle.growing_history.specs.Entered.{HasRank}
use Rattle.cell_slots.specs.declared.slot.Slot.TheVariants.{Lent, Held}
use Rattle.cell_slots.specs.Slots.{IsRightFor, with_slot}
use Rattle.rank_layers.proofs.PartLemmas.{of_lender, of_borrowed}
use Rattle.scan_core.specs.Rights.{Contents}
use Rattle.scan_core.proofs.ReaderLemmas.{taken_out, still_there, right_same, held_back, places_back, none_lent_back, advanced_from, cost_from}
use Rattle.scan_core.proofs.reading.advance_cell.Goals as goal

pub advance_to-advanced-requires-clause-before : goal.advance_to-advanced-requires-clause-before
advance_to-advanced-requires-clause-before g c =
    let t = taken_out c.args.core.now.history c.args.id c.args.core.now.cells c.take.new.self.cells c.in_ok-at.field-0 c.in-Some.at c.in-Some.state c.in-Some.is c.in_ok-at.ensures.taken in
    c.requires.before c.in-Some.at c.in-Some.state t.held

pub advance_to-advanced-requires-clause-stands : goal.advance_to-advanced-requires-clause-stands
advance_to-advanced-requires-clause-stands g c =
    let t = taken_out c.args.core.now.history c.args.id c.args.core.now.cells c.take.new.self.cells c.in_ok-at.field-0 c.in-Some.at c.in-Some.state c.in-Some.is c.in_ok-at.ensures.taken in
    subst (λ h. HasRank (joins_of (take c.args.to h)) c.in-Some.state.join c.args.rank) (sym c.take.ensures.history) (c.requires.stands c.in-Some.at c.in-Some.state t.held)

pub give_back-requires-clause-lent : goal.give_back-requires-clause-lent
give_back-requires-clause-lent g c =
    let t = taken_out c.args.core.now.history c.args.id c.args.core.now.cells c.take.new.self.cells c.in_ok-at.field-0 c.in-Some.at c.in-Some.state c.in-Some.is c.in_ok-at.ensures.taken in
    of_lender (λ (core : Contents). slice_get core.cells.slots c.args.id ≡ Some (Lent c.in-Some.at c.advance_to-advanced.new.state.range)) {lender = c.core-1.given.0} {borrowed = c.advance_to-advanced.new.reader.lowest.now}
    (still_there c.args.core.now.cells c.take.new.self.cells c.advance_to-advanced.new.reader.lowest.now.cells c.args.id c.in-Some.at c.in-Some.state c.advance_to-advanced.new.state.range t.held t.lent c.advance_to-advanced.ensures.moves.on.1 c.advance_to-advanced.ensures.same.range)
    (search rules)

pub give_back-requires-clause-right : goal.give_back-requires-clause-right
give_back-requires-clause-right g c =
    let t = taken_out c.args.core.now.history c.args.id c.args.core.now.cells c.take.new.self.cells c.in_ok-at.field-0 c.in-Some.at c.in-Some.state c.in-Some.is c.in_ok-at.ensures.taken in
    of_lender (λ (core : Contents). IsRightFor core.history c.in-Some.at c.advance_to-advanced.new.state) {lender = c.core-1.given.0} {borrowed = c.advance_to-advanced.new.reader.lowest.now}
    (right_same c.args.core.now.history c.advance_to-advanced.new.reader.lowest.now.history c.in-Some.at c.in-Some.state c.advance_to-advanced.new.state
    (subst (λ h. IsPrefix h c.advance_to-advanced.new.reader.lowest.now.history) c.take.ensures.history c.advance_to-advanced.ensures.moves.kept) t.right c.advance_to-advanced.ensures.same c.advance_to-advanced.ensures.sound)
    (search rules)

pub returns-clause-advanced : goal.returns-clause-advanced
returns-clause-advanced g c =
    let t = taken_out c.args.core.now.history c.args.id c.args.core.now.cells c.take.new.self.cells c.in_ok-at.field-0 c.in-Some.at c.in-Some.state c.in-Some.is c.in_ok-at.ensures.taken in
    let back : c.give_back.new.self.cells ≡ with_slot c.args.id (Held c.in-Some.at c.advance_to-advanced.new.state) c.advance_to-advanced.new.reader.lowest.now.cells =
    of_borrowed (λ (core : Contents). c.give_back.new.self.cells ≡ with_slot c.args.id (Held c.in-Some.at c.advance_to-advanced.new.state) core.cells) {lender = c.core-1.given.0} {borrowed = c.advance_to-advanced.new.reader.lowest.now} c.give_back.ensures.held (search rules) in
    let there = still_there c.args.core.now.cells c.take.new.self.cells c.advance_to-advanced.new.reader.lowest.now.cells c.args.id c.in-Some.at c.in-Some.state c.advance_to-advanced.new.state.range t.held t.lent c.advance_to-advanced.ensures.moves.on.1 c.advance_to-advanced.ensures.same.range in
    advanced_from c.advance_to-advanced.result c.args.core.now.history c.take.new.self.history c.args.core.now.cells.slots c.give_back.new.self.cells.slots c.args.id c.in-Some.at c.args.to c.args.rank c.in-Some.state c.advance_to-advanced.new.state
    c.look.ensures.entered c.take.ensures.history t.held (held_back c.advance_to-advanced.new.reader.lowest.now.cells c.give_back.new.self.cells c.args.id c.in-Some.at c.advance_to-advanced.new.state there back) c.advance_to-advanced.ensures.same.range
    (places_back c.args.core.now.cells c.take.new.self.cells c.advance_to-advanced.new.reader.lowest.now.cells c.give_back.new.self.cells c.args.id c.in-Some.at c.in-Some.state c.advance_to-advanced.new.state t.held t.lent c.advance_to-advanced.ensures.moves.on.1 there back c.advance_to-advanced.ensures.same.range)
    (subst (λ h. HasRank (joins_of (take c.args.to h)) c.in-Some.state.join c.args.rank) (sym c.take.ensures.history) (c.requires.stands c.in-Some.at c.in-Some.state t.held))
    c.advance_to-advanced.ensures.at c.advance_to-advanced.ensures.little

pub returns-clause-cost : goal.returns-clause-cost
returns-clause-cost g c =
    let t = taken_out c.args.core.now.history c.args.id c.args.core.now.cells c.take.new.self.cells c.in_ok-at.field-0 c.in-Some.at c.in-Some.state c.in-Some.is c.in_ok-at.ensures.taken in
    cost_from c.advance_to-advanced.result c.args.core.now.history c.take.new.self.history c.args.core.now.cells.slots c.args.id c.in-Some.at c.args.to c.args.rank c.args.steps.now c.advance_to-advanced.new.steps c.in-Some.state
    c.take.ensures.history t.held c.advance_to-advanced.ensures.cost

pub returns-clause-unlent : goal.returns-clause-unlent
returns-clause-unlent g c =
    let t = taken_out c.args.core.now.history c.args.id c.args.core.now.cells c.take.new.self.cells c.in_ok-at.field-0 c.in-Some.at c.in-Some.state c.in-Some.is c.in_ok-at.ensures.taken in
    let back : c.give_back.new.self.cells ≡ with_slot c.args.id (Held c.in-Some.at c.advance_to-advanced.new.state) c.advance_to-advanced.new.reader.lowest.now.cells =
    of_borrowed (λ (core : Contents). c.give_back.new.self.cells ≡ with_slot c.args.id (Held c.in-Some.at c.advance_to-advanced.new.state) core.cells) {lender = c.core-1.given.0} {borrowed = c.advance_to-advanced.new.reader.lowest.now} c.give_back.ensures.held (search rules) in
    let there = still_there c.args.core.now.cells c.take.new.self.cells c.advance_to-advanced.new.reader.lowest.now.cells c.args.id c.in-Some.at c.in-Some.state c.advance_to-advanced.new.state.range t.held t.lent c.advance_to-advanced.ensures.moves.on.1 c.advance_to-advanced.ensures.same.range in
    none_lent_back c.args.core.now.cells c.take.new.self.cells c.advance_to-advanced.new.reader.lowest.now.cells c.give_back.new.self.cells c.args.id c.in-Some.at c.in-Some.state c.advance_to-advanced.new.state t.lent c.advance_to-advanced.ensures.moves.on.1 there back
