use Rattle.std.proofs.Common.{rules, ◌≡◌, length, Some, slice_get, true, refl, sym, ap, ◌∙◌, subst}
use Rattle.std.proofs.lemmas.Option.{MatchOption-at_some, none-some, same_Some}
use Rattle.semantics.specs.Histories.{History, IsPrefix}
use Rattle.kept_ranges.specs.Sound.{KeptRange}
use Rattle.range_state.specs.Held.{forgotten}
use Rattle.range_state.specs.Ready.{IsReady, StandsAt, pending_meets}
use Rattle.range_state.specs.Asking.{AreBareThroughout}
use Rattle.cell_slots.specs.declared.slot.Slot.TheVariants.{Lent, Held}
use Rattle.cell_slots.specs.Slots.{Frame, IsRightFor, with_slot}
use Rattle.cell_slots.specs.Spending.{StaysReady}
use Rattle.cell_slots.proofs.PieceLemmas.{within_itself}
use Rattle.rank_layers.proofs.PartLemmas.{of_lender, of_borrowed, moves_part, right_after, place_lent, output_of_part, whole_from, keeps_from, not_past, stays_ready, behind_not_past, holds_advanced, holds_mended, rank_of_part}
use Rattle.rank_layers.proofs.part.read_part.Goals as goal

pub returns-in_default-2-clause-held : goal.returns-in_default-2-clause-held
returns-in_default-2-clause-held g c = λ id j cell held.
    let same : c.in-Some.id ≡ id = same_Some c.in-Some.id id (sym c.in-Some.is ∙ cell) in
    let found = c.in_ok-state.ensures.held (forgotten j c.args.query.rank c.args.part.now.range) (ap (slice_get (g.S.Cells.holdings c.args.lowest.now).slots) same ∙ held) refl (λ past. past) (within_itself c.args.part.now.range) in
    absurd (none-some (forgotten j c.args.query.rank c.args.part.now.range) (sym c.in_default-2.is ∙ found))

pub serve-served-requires-clause-stands : goal.serve-served-requires-clause-stands
serve-served-requires-clause-stands g c =
    let takes = MatchOption-at_some _ _ c.in-Some-2.state c.in-Some-2.is c.in_ok-state.ensures.taken in
    rank_of_part (g.S.Reader.list c.args.lowest.now) (g.S.Reader.list c.lend.new.self) (g.S.Reader.floor c.args.lowest.now) (g.S.Cells.holdings c.args.lowest.now) (g.S.Cells.holdings c.lend.new.self)
    c.in-Some.id c.args.query.at c.args.query.rank c.args.query.p c.args.part.now.range c.in-Some-2.state c.requires.stands.0 takes c.in_ok-state.ensures.list c.requires.stands.1

pub give_back-requires-clause-lent : goal.give_back-requires-clause-lent
give_back-requires-clause-lent g c =
    let takes = MatchOption-at_some _ _ c.in-Some-2.state c.in-Some-2.is c.in_ok-state.ensures.taken in
    of_lender (λ lowest. slice_get (g.S.Cells.holdings lowest).slots c.in-Some.id ≡ Some (Lent c.args.query.at c.serve-served.new.state.range))
    (place_lent (g.S.Reader.list c.args.lowest.now) (g.S.Reader.floor c.args.lowest.now) (g.S.Cells.holdings c.args.lowest.now) (g.S.Cells.holdings c.lend.new.self) (g.S.Cells.holdings c.serve-served.new.reader.lowest.now)
    c.in-Some.id c.args.query.at c.args.query.rank c.args.query.p c.args.part.now.range c.in-Some-2.state c.serve-served.new.state takes
    (subst (λ t. Frame t (g.S.Cells.holdings c.lend.new.self) (g.S.Cells.holdings c.serve-served.new.reader.lowest.now)) c.requires.next c.serve-served.ensures.moves.on.1)
    c.serve-served.ensures.same)
    (search rules)

pub give_back-requires-clause-right : goal.give_back-requires-clause-right
give_back-requires-clause-right g c =
    let takes = MatchOption-at_some _ _ c.in-Some-2.state c.in-Some-2.is c.in_ok-state.ensures.taken in
    let list = g.S.Reader.list in
    of_lender (λ lowest. IsRightFor (list lowest) c.args.query.at c.serve-served.new.state)
    (right_after (list c.args.lowest.now) (list c.serve-served.new.reader.lowest.now) c.args.query.at c.in-Some-2.state c.serve-served.new.state
    (subst (λ l. IsPrefix l (list c.serve-served.new.reader.lowest.now)) c.in_ok-state.ensures.list c.serve-served.ensures.moves.kept) takes.right c.serve-served.ensures.same c.serve-served.ensures.sound)
    (search rules)

pub returns-in_err-served-clause-moves : goal.returns-in_err-served-clause-moves
returns-in_err-served-clause-moves g c =
    let takes = MatchOption-at_some _ _ c.in-Some-2.state c.in-Some-2.is c.in_ok-state.ensures.taken in
    let back : g.S.Cells.holdings c.give_back.new.self ≡ with_slot c.in-Some.id (Held c.args.query.at c.serve-served.new.state) (g.S.Cells.holdings c.serve-served.new.reader.lowest.now) =
    of_borrowed (λ lowest. g.S.Cells.holdings c.give_back.new.self ≡ with_slot c.in-Some.id (Held c.args.query.at c.serve-served.new.state) (g.S.Cells.holdings lowest)) c.give_back.ensures.held (search rules) in
    let list : g.S.Reader.list c.give_back.new.self ≡ g.S.Reader.list c.serve-served.new.reader.lowest.now =
    of_borrowed (λ lowest. g.S.Reader.list c.give_back.new.self ≡ g.S.Reader.list lowest) c.give_back.ensures.list (search rules) in
    let floor : g.S.Reader.floor c.give_back.new.self ≡ g.S.Reader.floor c.serve-served.new.reader.lowest.now =
    of_borrowed (λ lowest. g.S.Reader.floor c.give_back.new.self ≡ g.S.Reader.floor lowest) c.give_back.ensures.same_floor (search rules) in
    moves_part g.S.Reader.list g.S.Reader.floor g.S.Cells.holdings g.T.Rank.top c.args.query.rank c.args.lowest.now c.lend.new.self c.serve-served.new.reader.lowest.now c.give_back.new.self
    c.in-Some.id c.args.query.at c.args.query.p c.args.part.now.range c.in-Some-2.state c.serve-served.new.state c.requires.next takes c.in_ok-state.ensures.list c.in_ok-state.ensures.same_floor
    (record { kept = c.serve-served.ensures.moves.kept; entered = c.serve-served.ensures.moves.entered; same_floor = c.serve-served.ensures.moves.same_floor; on = c.serve-served.ensures.moves.on.1 }) back c.serve-served.ensures.same list floor

pub returns-clause-moves : goal.returns-clause-moves
returns-clause-moves g c =
    let takes = MatchOption-at_some _ _ c.in-Some-2.state c.in-Some-2.is c.in_ok-state.ensures.taken in
    let back : g.S.Cells.holdings c.give_back.new.self ≡ with_slot c.in-Some.id (Held c.args.query.at c.serve-served.new.state) (g.S.Cells.holdings c.serve-served.new.reader.lowest.now) =
    of_borrowed (λ lowest. g.S.Cells.holdings c.give_back.new.self ≡ with_slot c.in-Some.id (Held c.args.query.at c.serve-served.new.state) (g.S.Cells.holdings lowest)) c.give_back.ensures.held (search rules) in
    let list : g.S.Reader.list c.give_back.new.self ≡ g.S.Reader.list c.serve-served.new.reader.lowest.now =
    of_borrowed (λ lowest. g.S.Reader.list c.give_back.new.self ≡ g.S.Reader.list lowest) c.give_back.ensures.list (search rules) in
    let floor : g.S.Reader.floor c.give_back.new.self ≡ g.S.Reader.floor c.serve-served.new.reader.lowest.now =
    of_borrowed (λ lowest. g.S.Reader.floor c.give_back.new.self ≡ g.S.Reader.floor lowest) c.give_back.ensures.same_floor (search rules) in
    moves_part g.S.Reader.list g.S.Reader.floor g.S.Cells.holdings g.T.Rank.top c.args.query.rank c.args.lowest.now c.lend.new.self c.serve-served.new.reader.lowest.now c.give_back.new.self
    c.in-Some.id c.args.query.at c.args.query.p c.args.part.now.range c.in-Some-2.state c.serve-served.new.state c.requires.next takes c.in_ok-state.ensures.list c.in_ok-state.ensures.same_floor
    (record { kept = c.serve-served.ensures.moves.kept; entered = c.serve-served.ensures.moves.entered; same_floor = c.serve-served.ensures.moves.same_floor; on = c.serve-served.ensures.moves.on.1 }) back c.serve-served.ensures.same list floor

pub returns-clause-output : goal.returns-clause-output
returns-clause-output g c = λ j stands.
    let takes = MatchOption-at_some _ _ c.in-Some-2.state c.in-Some-2.is c.in_ok-state.ensures.taken in
    c.in_ok-served.ensures.output
    ∙ output_of_part (g.S.Reader.list c.args.lowest.now) (g.S.Reader.list c.lend.new.self) (g.S.Reader.floor c.args.lowest.now) (g.S.Cells.holdings c.args.lowest.now) (g.S.Cells.holdings c.lend.new.self)
    c.in-Some.id c.args.query.at c.args.query.rank c.args.query.p c.args.part.now.range c.in-Some-2.state j takes c.in_ok-state.ensures.list stands.declared

pub returns-clause-held : goal.returns-clause-held
returns-clause-held g c = λ id j cell held.
    let same : c.in-Some.id ≡ id = same_Some c.in-Some.id id (sym c.in-Some.is ∙ cell) in
    let found = c.in_ok-state.ensures.held (forgotten j c.args.query.rank c.args.part.now.range) (ap (slice_get (g.S.Cells.holdings c.args.lowest.now).slots) same ∙ held) refl (λ past. past) (within_itself c.args.part.now.range) in
    let is : c.in-Some-2.state ≡ forgotten j c.args.query.rank c.args.part.now.range = same_Some c.in-Some-2.state (forgotten j c.args.query.rank c.args.part.now.range) (sym c.in-Some-2.is ∙ found) in
    let takes = MatchOption-at_some _ _ c.in-Some-2.state c.in-Some-2.is c.in_ok-state.ensures.taken in
    let back : g.S.Cells.holdings c.give_back.new.self ≡ with_slot c.in-Some.id (Held c.args.query.at c.serve-served.new.state) (g.S.Cells.holdings c.serve-served.new.reader.lowest.now) =
    of_borrowed (λ lowest. g.S.Cells.holdings c.give_back.new.self ≡ with_slot c.in-Some.id (Held c.args.query.at c.serve-served.new.state) (g.S.Cells.holdings lowest)) c.give_back.ensures.held (search rules) in
    let frame = subst (λ t. Frame t (g.S.Cells.holdings c.lend.new.self) (g.S.Cells.holdings c.serve-served.new.reader.lowest.now)) c.requires.next c.serve-served.ensures.moves.on.1 in
    keeps_from (g.S.Reader.list c.args.lowest.now) (g.S.Reader.floor c.args.lowest.now) (g.S.Cells.holdings c.args.lowest.now) (g.S.Cells.holdings c.lend.new.self) (g.S.Cells.holdings c.serve-served.new.reader.lowest.now) (g.S.Cells.holdings c.give_back.new.self)
    c.in-Some.id c.args.query.at c.args.query.rank c.args.query.p c.args.part.now.range c.in-Some-2.state c.serve-served.new.state takes frame back
    (whole_from (g.S.Cells.holdings c.serve-served.new.reader.lowest.now) (g.S.Cells.holdings c.give_back.new.self) c.in-Some.id c.args.query.at c.args.query.rank c.args.query.p c.args.part.now.range j c.in-Some-2.state c.serve-served.new.state is
    (place_lent (g.S.Reader.list c.args.lowest.now) (g.S.Reader.floor c.args.lowest.now) (g.S.Cells.holdings c.args.lowest.now) (g.S.Cells.holdings c.lend.new.self) (g.S.Cells.holdings c.serve-served.new.reader.lowest.now)
    c.in-Some.id c.args.query.at c.args.query.rank c.args.query.p c.args.part.now.range c.in-Some-2.state c.serve-served.new.state takes frame c.serve-served.ensures.same) back c.serve-served.ensures.same
    c.in_ok-served.ensures.ready c.in_ok-served.ensures.filled)

pub returns-in_default-2-clause-stays : goal.returns-in_default-2-clause-stays
returns-in_default-2-clause-stays g c = λ id s cell ranked is.
    let same : c.in-Some.id ≡ id = same_Some c.in-Some.id id (sym c.in-Some.is ∙ cell) in
    let found = c.in_ok-state.ensures.held s (ap (slice_get (g.S.Cells.holdings c.args.lowest.now).slots) same ∙ is.held) ranked (not_past c.args.query.p s is.ready.stands) is.whole in
    absurd (none-some s (sym c.in_default-2.is ∙ found))

pub returns-clause-stays : goal.returns-clause-stays
returns-clause-stays g c = λ id s cell ranked is.
    let holds = g.S.Cells.holdings in
    let before = holds c.args.lowest.now in
    let lent = holds c.lend.new.self in
    let mid = holds c.serve-served.new.reader.lowest.now in
    let same : c.in-Some.id ≡ id = same_Some c.in-Some.id id (sym c.in-Some.is ∙ cell) in
    let found = c.in_ok-state.ensures.held s (ap (slice_get before.slots) same ∙ is.held) ranked (not_past c.args.query.p s is.ready.stands) is.whole in
    let own : c.in-Some-2.state ≡ s = same_Some c.in-Some-2.state s (sym c.in-Some-2.is ∙ found) in
    let takes = MatchOption-at_some _ _ c.in-Some-2.state c.in-Some-2.is c.in_ok-state.ensures.taken in
    let back : g.S.Cells.holdings c.give_back.new.self ≡ with_slot c.in-Some.id (Held c.args.query.at c.serve-served.new.state) (g.S.Cells.holdings c.serve-served.new.reader.lowest.now) =
    of_borrowed (λ lowest. g.S.Cells.holdings c.give_back.new.self ≡ with_slot c.in-Some.id (Held c.args.query.at c.serve-served.new.state) (g.S.Cells.holdings lowest)) c.give_back.ensures.held (search rules) in
    let frame = subst (λ t. Frame t lent mid) c.requires.next c.serve-served.ensures.moves.on.1 in
    let there = place_lent (g.S.Reader.list c.args.lowest.now) (g.S.Reader.floor c.args.lowest.now) before lent mid c.in-Some.id c.args.query.at c.args.query.rank c.args.query.p c.args.part.now.range c.in-Some-2.state c.serve-served.new.state takes frame c.serve-served.ensures.same in
    let ready : IsReady c.args.query.p c.args.part.now.range c.in-Some-2.state = subst (IsReady c.args.query.p c.args.part.now.range) (sym own) is.ready in
    subst (λ n. StaysReady before (holds c.give_back.new.self) n c.args.query.at c.args.query.p c.args.part.now.range s) same
    (stays_ready before lent mid (holds c.give_back.new.self) c.in-Some.id c.args.query.at c.args.query.p c.args.part.now.range c.in-Some-2.state.range s c.serve-served.new.state takes.lent (λ i. holds (c.serve-served.ensures.unused ready i).lowest.now) there
    back (c.serve-served.ensures.still ready ∙ own) is.ready is.whole)

pub returns-in_default-2-clause-behind : goal.returns-in_default-2-clause-behind
returns-in_default-2-clause-behind g c = λ id q s cell ranked is.
    let same : c.in-Some.id ≡ id = same_Some c.in-Some.id id (sym c.in-Some.is ∙ cell) in
    let past = behind_not_past (g.S.Reader.list c.args.lowest.now) (g.S.Cells.holdings c.args.lowest.now).slots id c.args.query.at q c.args.query.p c.args.part.now.range s is in
    let found = c.in_ok-state.ensures.held s (ap (slice_get (g.S.Cells.holdings c.args.lowest.now).slots) same ∙ is.held) ranked past is.whole in
    absurd (none-some s (sym c.in_default-2.is ∙ found))

pub returns-clause-behind : goal.returns-clause-behind
returns-clause-behind g c = λ id q s cell ranked is.
    let list = g.S.Reader.list in
    let holds = g.S.Cells.holdings in
    let same : c.in-Some.id ≡ id = same_Some c.in-Some.id id (sym c.in-Some.is ∙ cell) in
    let past = behind_not_past (list c.args.lowest.now) (holds c.args.lowest.now).slots id c.args.query.at q c.args.query.p c.args.part.now.range s is in
    let found = c.in_ok-state.ensures.held s (ap (slice_get (holds c.args.lowest.now).slots) same ∙ is.held) ranked past is.whole in
    let own : c.in-Some-2.state ≡ s = same_Some c.in-Some-2.state s (sym c.in-Some-2.is ∙ found) in
    let takes = MatchOption-at_some _ _ c.in-Some-2.state c.in-Some-2.is c.in_ok-state.ensures.taken in
    let back : g.S.Cells.holdings c.give_back.new.self ≡ with_slot c.in-Some.id (Held c.args.query.at c.serve-served.new.state) (g.S.Cells.holdings c.serve-served.new.reader.lowest.now) =
    of_borrowed (λ lowest. g.S.Cells.holdings c.give_back.new.self ≡ with_slot c.in-Some.id (Held c.args.query.at c.serve-served.new.state) (g.S.Cells.holdings lowest)) c.give_back.ensures.held (search rules) in
    let frame = subst (λ t. Frame t (holds c.lend.new.self) (holds c.serve-served.new.reader.lowest.now)) c.requires.next c.serve-served.ensures.moves.on.1 in
    let there = place_lent (list c.args.lowest.now) (g.S.Reader.floor c.args.lowest.now) (holds c.args.lowest.now) (holds c.lend.new.self) (holds c.serve-served.new.reader.lowest.now) c.in-Some.id c.args.query.at c.args.query.rank c.args.query.p c.args.part.now.range c.in-Some-2.state c.serve-served.new.state takes frame c.serve-served.ensures.same in
    let stands : StandsAt q c.in-Some-2.state = subst (StandsAt q) (sym own) is.stands in
    let bare : AreBareThroughout (list c.lend.new.self) q c.args.query.p c.in-Some-2.state.kept.needs =
    subst (λ (w : History × KeptRange). AreBareThroughout w.0 q c.args.query.p w.1.kept.needs) (λ i. (sym c.in_ok-state.ensures.list i, sym own i)) is.bare in
    holds_advanced (length c.in_ok-served.field-0.items) (list c.args.lowest.now) (list c.lend.new.self) (holds c.serve-served.new.reader.lowest.now) (holds c.give_back.new.self) c.in-Some.id id c.args.query.at q c.args.query.p c.args.part.now.range s c.in-Some-2.state c.serve-served.new.state
    c.args.steps.now c.serve-served.new.steps c.in_ok-state.ensures.list same own there back (c.in_ok-served.ensures.behind q stands is.behind bare)

pub returns-in_default-2-clause-pending : goal.returns-in_default-2-clause-pending
returns-in_default-2-clause-pending g c = λ id s cell ranked is.
    let same : c.in-Some.id ≡ id = same_Some c.in-Some.id id (sym c.in-Some.is ∙ cell) in
    let found = c.in_ok-state.ensures.held s (ap (slice_get (g.S.Cells.holdings c.args.lowest.now).slots) same ∙ is.held) ranked (not_past c.args.query.p s is.stands) is.whole in
    absurd (none-some s (sym c.in_default-2.is ∙ found))

pub returns-clause-pending : goal.returns-clause-pending
returns-clause-pending g c = λ id s cell ranked is.
    let list = g.S.Reader.list in
    let holds = g.S.Cells.holdings in
    let same : c.in-Some.id ≡ id = same_Some c.in-Some.id id (sym c.in-Some.is ∙ cell) in
    let found = c.in_ok-state.ensures.held s (ap (slice_get (holds c.args.lowest.now).slots) same ∙ is.held) ranked (not_past c.args.query.p s is.stands) is.whole in
    let own : c.in-Some-2.state ≡ s = same_Some c.in-Some-2.state s (sym c.in-Some-2.is ∙ found) in
    let takes = MatchOption-at_some _ _ c.in-Some-2.state c.in-Some-2.is c.in_ok-state.ensures.taken in
    let back : g.S.Cells.holdings c.give_back.new.self ≡ with_slot c.in-Some.id (Held c.args.query.at c.serve-served.new.state) (g.S.Cells.holdings c.serve-served.new.reader.lowest.now) =
    of_borrowed (λ lowest. g.S.Cells.holdings c.give_back.new.self ≡ with_slot c.in-Some.id (Held c.args.query.at c.serve-served.new.state) (g.S.Cells.holdings lowest)) c.give_back.ensures.held (search rules) in
    let frame = subst (λ t. Frame t (holds c.lend.new.self) (holds c.serve-served.new.reader.lowest.now)) c.requires.next c.serve-served.ensures.moves.on.1 in
    let there = place_lent (list c.args.lowest.now) (g.S.Reader.floor c.args.lowest.now) (holds c.args.lowest.now) (holds c.lend.new.self) (holds c.serve-served.new.reader.lowest.now) c.in-Some.id c.args.query.at c.args.query.rank c.args.query.p c.args.part.now.range c.in-Some-2.state c.serve-served.new.state takes frame c.serve-served.ensures.same in
    let stands : StandsAt c.args.query.p c.in-Some-2.state = subst (StandsAt c.args.query.p) (sym own) is.stands in
    let meets : pending_meets c.in-Some-2.state c.args.part.now.range ≡ true = ap (λ (k : KeptRange). pending_meets k c.args.part.now.range) own ∙ is.meets in
    holds_mended (length c.in_ok-served.field-0.items) (list c.args.lowest.now) (list c.lend.new.self) (holds c.serve-served.new.reader.lowest.now) (holds c.give_back.new.self) c.in-Some.id id c.args.query.at c.args.query.p c.args.part.now.range s c.in-Some-2.state c.serve-served.new.state
    c.args.steps.now c.serve-served.new.steps c.in_ok-state.ensures.list same own there back (c.in_ok-served.ensures.pending stands meets)
