use Rattle.std.proofs.Common.{rules, ◌≡◌, ℕ, ◌+◌, ◌≤◌, Option, Some, slice_get, sym, ap, ◌∙◌, subst}
use Rattle.std.proofs.lemmas.Option.{MatchOption-at_some, none-some, same_Some}
use Rattle.semantics.specs.Histories.{History, IsPrefix}
use Rattle.kept_ranges.specs.Sound.{KeptRange}
use Rattle.range_state.specs.Ready.{StandsAt}
use Rattle.range_state.specs.Since.{AnswersSince, told_count}
use Rattle.range_state.specs.Work.{advance_steps, TouchesLittle}
use Rattle.range_state.specs.Asking.{AreBareThroughout}
use Rattle.cell_slots.specs.Serving.{IsCaughtUp}
use Rattle.cell_slots.specs.declared.slot.Slot.{Slot}
use Rattle.cell_slots.specs.declared.slot.Slot.TheVariants.{Lent, Held}
use Rattle.cell_slots.specs.Slots.{Frame, IsRightFor, with_slot}
use Rattle.cell_slots.proofs.FrameLemmas.{given_back}
use Rattle.rank_layers.proofs.PartLemmas.{of_lender, of_borrowed, behind_not_past, moves_part, right_after, place_lent, rank_of_part}
use Rattle.rank_layers.proofs.TellingLemmas.{told_of_part}
use Rattle.rank_layers.proofs.part.changes_of_part.Goals as goal

-- a slot holds one kept range
held_once : (at : ℕ) (s t : KeptRange) → ◌≡◌ {A = Option Slot} (Some (Held at s)) (Some (Held at t)) → s ≡ t
held_once at s t e = cc

pub changes_since-told-requires-clause-stands : goal.changes_since-told-requires-clause-stands
changes_since-told-requires-clause-stands g c =
    let takes = MatchOption-at_some _ _ c.in-Some-2.state c.in-Some-2.is c.in_ok-state.ensures.taken in
    rank_of_part (g.S.Reader.list c.args.lowest.now) (g.S.Reader.list c.lend.new.self) (g.S.Reader.floor c.args.lowest.now) (g.S.Cells.holdings c.args.lowest.now) (g.S.Cells.holdings c.lend.new.self)
    c.in-Some.id c.args.query.at c.args.query.rank c.args.query.p c.args.part.now.range c.in-Some-2.state c.requires.stands.0 takes c.in_ok-state.ensures.list c.requires.stands.1

pub give_back-requires-clause-lent : goal.give_back-requires-clause-lent
give_back-requires-clause-lent g c =
    let takes = MatchOption-at_some _ _ c.in-Some-2.state c.in-Some-2.is c.in_ok-state.ensures.taken in
    of_lender (λ lowest. slice_get (g.S.Cells.holdings lowest).slots c.in-Some.id ≡ Some (Lent c.args.query.at c.changes_since-told.new.state.range))
    (place_lent (g.S.Reader.list c.args.lowest.now) (g.S.Reader.floor c.args.lowest.now) (g.S.Cells.holdings c.args.lowest.now) (g.S.Cells.holdings c.lend.new.self) (g.S.Cells.holdings c.changes_since-told.new.reader.lowest.now)
    c.in-Some.id c.args.query.at c.args.query.rank c.args.query.p c.args.part.now.range c.in-Some-2.state c.changes_since-told.new.state takes
    (subst (λ t. Frame t (g.S.Cells.holdings c.lend.new.self) (g.S.Cells.holdings c.changes_since-told.new.reader.lowest.now)) c.requires.next c.changes_since-told.ensures.moves.on.1)
    c.changes_since-told.ensures.same)
    (search rules)

pub give_back-requires-clause-right : goal.give_back-requires-clause-right
give_back-requires-clause-right g c =
    let takes = MatchOption-at_some _ _ c.in-Some-2.state c.in-Some-2.is c.in_ok-state.ensures.taken in
    let list = g.S.Reader.list in
    of_lender (λ lowest. IsRightFor (list lowest) c.args.query.at c.changes_since-told.new.state)
    (right_after (list c.args.lowest.now) (list c.changes_since-told.new.reader.lowest.now) c.args.query.at c.in-Some-2.state c.changes_since-told.new.state
    (subst (λ l. IsPrefix l (list c.changes_since-told.new.reader.lowest.now)) c.in_ok-state.ensures.list c.changes_since-told.ensures.moves.kept) takes.right c.changes_since-told.ensures.same c.changes_since-told.ensures.sound)
    (search rules)

pub returns-clause-told : goal.returns-clause-told
returns-clause-told g c = λ j stands.
    let takes = MatchOption-at_some _ _ c.in-Some-2.state c.in-Some-2.is c.in_ok-state.ensures.taken in
    told_of_part (g.S.Reader.list c.args.lowest.now) (g.S.Reader.list c.lend.new.self) (g.S.Reader.floor c.args.lowest.now) (g.S.Cells.holdings c.args.lowest.now) (g.S.Cells.holdings c.lend.new.self)
    c.in-Some.id c.args.query.at c.args.query.rank c.args.since c.args.query.p c.args.part.now.range c.in-Some-2.state j c.in_ok-told.field-0 takes c.in_ok-state.ensures.list stands.declared c.in_ok-told.ensures.told

pub returns-in_err-told-clause-moves : goal.returns-in_err-told-clause-moves
returns-in_err-told-clause-moves g c =
    let takes = MatchOption-at_some _ _ c.in-Some-2.state c.in-Some-2.is c.in_ok-state.ensures.taken in
    let back : g.S.Cells.holdings c.give_back.new.self ≡ with_slot c.in-Some.id (Held c.args.query.at c.changes_since-told.new.state) (g.S.Cells.holdings c.changes_since-told.new.reader.lowest.now) =
    of_borrowed (λ lowest. g.S.Cells.holdings c.give_back.new.self ≡ with_slot c.in-Some.id (Held c.args.query.at c.changes_since-told.new.state) (g.S.Cells.holdings lowest)) c.give_back.ensures.held (search rules) in
    let list : g.S.Reader.list c.give_back.new.self ≡ g.S.Reader.list c.changes_since-told.new.reader.lowest.now =
    of_borrowed (λ lowest. g.S.Reader.list c.give_back.new.self ≡ g.S.Reader.list lowest) c.give_back.ensures.list (search rules) in
    let floor : g.S.Reader.floor c.give_back.new.self ≡ g.S.Reader.floor c.changes_since-told.new.reader.lowest.now =
    of_borrowed (λ lowest. g.S.Reader.floor c.give_back.new.self ≡ g.S.Reader.floor lowest) c.give_back.ensures.same_floor (search rules) in
    moves_part g.S.Reader.list g.S.Reader.floor g.S.Cells.holdings g.T.Rank.top c.args.query.rank c.args.lowest.now c.lend.new.self c.changes_since-told.new.reader.lowest.now c.give_back.new.self
    c.in-Some.id c.args.query.at c.args.query.p c.args.part.now.range c.in-Some-2.state c.changes_since-told.new.state c.requires.next takes c.in_ok-state.ensures.list c.in_ok-state.ensures.same_floor
    (record { kept = c.changes_since-told.ensures.moves.kept; entered = c.changes_since-told.ensures.moves.entered; same_floor = c.changes_since-told.ensures.moves.same_floor; on = c.changes_since-told.ensures.moves.on.1 }) back c.changes_since-told.ensures.same list floor

pub returns-clause-moves : goal.returns-clause-moves
returns-clause-moves g c =
    let takes = MatchOption-at_some _ _ c.in-Some-2.state c.in-Some-2.is c.in_ok-state.ensures.taken in
    let back : g.S.Cells.holdings c.give_back.new.self ≡ with_slot c.in-Some.id (Held c.args.query.at c.changes_since-told.new.state) (g.S.Cells.holdings c.changes_since-told.new.reader.lowest.now) =
    of_borrowed (λ lowest. g.S.Cells.holdings c.give_back.new.self ≡ with_slot c.in-Some.id (Held c.args.query.at c.changes_since-told.new.state) (g.S.Cells.holdings lowest)) c.give_back.ensures.held (search rules) in
    let list : g.S.Reader.list c.give_back.new.self ≡ g.S.Reader.list c.changes_since-told.new.reader.lowest.now =
    of_borrowed (λ lowest. g.S.Reader.list c.give_back.new.self ≡ g.S.Reader.list lowest) c.give_back.ensures.list (search rules) in
    let floor : g.S.Reader.floor c.give_back.new.self ≡ g.S.Reader.floor c.changes_since-told.new.reader.lowest.now =
    of_borrowed (λ lowest. g.S.Reader.floor c.give_back.new.self ≡ g.S.Reader.floor lowest) c.give_back.ensures.same_floor (search rules) in
    moves_part g.S.Reader.list g.S.Reader.floor g.S.Cells.holdings g.T.Rank.top c.args.query.rank c.args.lowest.now c.lend.new.self c.changes_since-told.new.reader.lowest.now c.give_back.new.self
    c.in-Some.id c.args.query.at c.args.query.p c.args.part.now.range c.in-Some-2.state c.changes_since-told.new.state c.requires.next takes c.in_ok-state.ensures.list c.in_ok-state.ensures.same_floor
    (record { kept = c.changes_since-told.ensures.moves.kept; entered = c.changes_since-told.ensures.moves.entered; same_floor = c.changes_since-told.ensures.moves.same_floor; on = c.changes_since-told.ensures.moves.on.1 }) back c.changes_since-told.ensures.same list floor

pub returns-in_default-2-clause-since : goal.returns-in_default-2-clause-since
returns-in_default-2-clause-since g c = λ id held cell stands can.
    let same : c.in-Some.id ≡ id = same_Some c.in-Some.id id (sym c.in-Some.is ∙ cell) in
    let found = c.in_ok-state.ensures.held held (ap (slice_get (g.S.Cells.holdings c.args.lowest.now).slots) same ∙ stands) can.ranked can.upto can.whole in
    absurd (none-some held (sym c.in_default-2.is ∙ found))

pub returns-clause-since : goal.returns-clause-since
returns-clause-since g c = λ id held cell stands can.
    let same : c.in-Some.id ≡ id = same_Some c.in-Some.id id (sym c.in-Some.is ∙ cell) in
    let takes = MatchOption-at_some _ _ c.in-Some-2.state c.in-Some-2.is c.in_ok-state.ensures.taken in
    let back : g.S.Cells.holdings c.give_back.new.self ≡ with_slot c.in-Some.id (Held c.args.query.at c.changes_since-told.new.state) (g.S.Cells.holdings c.changes_since-told.new.reader.lowest.now) =
    of_borrowed (λ lowest. g.S.Cells.holdings c.give_back.new.self ≡ with_slot c.in-Some.id (Held c.args.query.at c.changes_since-told.new.state) (g.S.Cells.holdings lowest)) c.give_back.ensures.held (search rules) in
    let lent =
    place_lent (g.S.Reader.list c.args.lowest.now) (g.S.Reader.floor c.args.lowest.now) (g.S.Cells.holdings c.args.lowest.now) (g.S.Cells.holdings c.lend.new.self) (g.S.Cells.holdings c.changes_since-told.new.reader.lowest.now)
    c.in-Some.id c.args.query.at c.args.query.rank c.args.query.p c.args.part.now.range c.in-Some-2.state c.changes_since-told.new.state takes
    (subst (λ t. Frame t (g.S.Cells.holdings c.lend.new.self) (g.S.Cells.holdings c.changes_since-told.new.reader.lowest.now)) c.requires.next c.changes_since-told.ensures.moves.on.1)
    c.changes_since-told.ensures.same in
    λ after there.
    subst (λ s. AnswersSince c.args.since c.args.part.now.range s c.in_ok-told.field-0)
    (held_once c.args.query.at c.changes_since-told.new.state after (sym (given_back (g.S.Cells.holdings c.changes_since-told.new.reader.lowest.now) (g.S.Cells.holdings c.give_back.new.self) c.in-Some.id (Held c.args.query.at c.changes_since-told.new.state)
    (Lent c.args.query.at c.changes_since-told.new.state.range) lent back) ∙ ap (slice_get (g.S.Cells.holdings c.give_back.new.self).slots) same ∙ there)) c.in_ok-told.ensures.since

pub returns-clause-advanced : goal.returns-clause-advanced
returns-clause-advanced g c = λ id held cell stands can.
    let same : c.in-Some.id ≡ id = same_Some c.in-Some.id id (sym c.in-Some.is ∙ cell) in
    let takes = MatchOption-at_some _ _ c.in-Some-2.state c.in-Some-2.is c.in_ok-state.ensures.taken in
    let back : g.S.Cells.holdings c.give_back.new.self ≡ with_slot c.in-Some.id (Held c.args.query.at c.changes_since-told.new.state) (g.S.Cells.holdings c.changes_since-told.new.reader.lowest.now) =
    of_borrowed (λ lowest. g.S.Cells.holdings c.give_back.new.self ≡ with_slot c.in-Some.id (Held c.args.query.at c.changes_since-told.new.state) (g.S.Cells.holdings lowest)) c.give_back.ensures.held (search rules) in
    let found = c.in_ok-state.ensures.held held (ap (slice_get (g.S.Cells.holdings c.args.lowest.now).slots) same ∙ stands) can.ranked can.upto can.whole in
    let was : c.in-Some-2.state ≡ held = same_Some c.in-Some-2.state held (sym c.in-Some-2.is ∙ found) in
    let lent =
    place_lent (g.S.Reader.list c.args.lowest.now) (g.S.Reader.floor c.args.lowest.now) (g.S.Cells.holdings c.args.lowest.now) (g.S.Cells.holdings c.lend.new.self) (g.S.Cells.holdings c.changes_since-told.new.reader.lowest.now)
    c.in-Some.id c.args.query.at c.args.query.rank c.args.query.p c.args.part.now.range c.in-Some-2.state c.changes_since-told.new.state takes
    (subst (λ t. Frame t (g.S.Cells.holdings c.lend.new.self) (g.S.Cells.holdings c.changes_since-told.new.reader.lowest.now)) c.requires.next c.changes_since-told.ensures.moves.on.1)
    c.changes_since-told.ensures.same in
    record {
      after = c.changes_since-told.new.state;
      holds = ap (slice_get (g.S.Cells.holdings c.give_back.new.self).slots) (sym same)
          ∙ given_back (g.S.Cells.holdings c.changes_since-told.new.reader.lowest.now) (g.S.Cells.holdings c.give_back.new.self) c.in-Some.id (Held c.args.query.at c.changes_since-told.new.state) (Lent c.args.query.at c.changes_since-told.new.state.range) lent back;
      advanced = subst (λ (s : KeptRange). IsCaughtUp c.args.query.p s c.changes_since-told.new.state) was c.in_ok-told.ensures.advanced;
    }

-- ---- where it stands behind with bare ranges

pub returns-in_default-2-clause-little : goal.returns-in_default-2-clause-little
returns-in_default-2-clause-little g c = λ id q s cell ranked is.
    let same : c.in-Some.id ≡ id = same_Some c.in-Some.id id (sym c.in-Some.is ∙ cell) in
    let past = behind_not_past (g.S.Reader.list c.args.lowest.now) (g.S.Cells.holdings c.args.lowest.now).slots id c.args.query.at q c.args.query.p c.args.part.now.range s is in
    let found = c.in_ok-state.ensures.held s (ap (slice_get (g.S.Cells.holdings c.args.lowest.now).slots) same ∙ is.held) ranked past is.whole in
    absurd (none-some s (sym c.in_default-2.is ∙ found))

pub returns-in_default-2-clause-cost : goal.returns-in_default-2-clause-cost
returns-in_default-2-clause-cost g c = λ id q s cell ranked is.
    let same : c.in-Some.id ≡ id = same_Some c.in-Some.id id (sym c.in-Some.is ∙ cell) in
    let past = behind_not_past (g.S.Reader.list c.args.lowest.now) (g.S.Cells.holdings c.args.lowest.now).slots id c.args.query.at q c.args.query.p c.args.part.now.range s is in
    let found = c.in_ok-state.ensures.held s (ap (slice_get (g.S.Cells.holdings c.args.lowest.now).slots) same ∙ is.held) ranked past is.whole in
    absurd (none-some s (sym c.in_default-2.is ∙ found))

pub returns-clause-little : goal.returns-clause-little
returns-clause-little g c = λ id q s cell ranked is.
    let list = g.S.Reader.list in
    let holds = g.S.Cells.holdings in
    let told = c.changes_since-told in
    let same : c.in-Some.id ≡ id = same_Some c.in-Some.id id (sym c.in-Some.is ∙ cell) in
    let past = behind_not_past (list c.args.lowest.now) (holds c.args.lowest.now).slots id c.args.query.at q c.args.query.p c.args.part.now.range s is in
    let found = c.in_ok-state.ensures.held s (ap (slice_get (holds c.args.lowest.now).slots) same ∙ is.held) ranked past is.whole in
    let own : c.in-Some-2.state ≡ s = same_Some c.in-Some-2.state s (sym c.in-Some-2.is ∙ found) in
    let takes = MatchOption-at_some _ _ c.in-Some-2.state c.in-Some-2.is c.in_ok-state.ensures.taken in
    let back : g.S.Cells.holdings c.give_back.new.self ≡ with_slot c.in-Some.id (Held c.args.query.at c.changes_since-told.new.state) (g.S.Cells.holdings c.changes_since-told.new.reader.lowest.now) =
    of_borrowed (λ lowest. g.S.Cells.holdings c.give_back.new.self ≡ with_slot c.in-Some.id (Held c.args.query.at c.changes_since-told.new.state) (g.S.Cells.holdings lowest)) c.give_back.ensures.held (search rules) in
    let frame = subst (λ t. Frame t (holds c.lend.new.self) (holds told.new.reader.lowest.now)) c.requires.next told.ensures.moves.on.1 in
    let lent = place_lent (list c.args.lowest.now) (g.S.Reader.floor c.args.lowest.now) (holds c.args.lowest.now) (holds c.lend.new.self) (holds told.new.reader.lowest.now) c.in-Some.id c.args.query.at c.args.query.rank c.args.query.p c.args.part.now.range c.in-Some-2.state told.new.state takes frame told.ensures.same in
    let stands : StandsAt q c.in-Some-2.state = subst (StandsAt q) (sym own) is.stands in
    let bare : AreBareThroughout (list c.lend.new.self) q c.args.query.p c.in-Some-2.state.kept.needs =
    subst (λ (w : History × KeptRange). AreBareThroughout w.0 q c.args.query.p w.1.kept.needs) (λ i. (sym c.in_ok-state.ensures.list i, sym own i)) is.bare in
    let little : TouchesLittle (list c.args.lowest.now) q c.args.query.p s told.new.state =
    subst (λ (w : History × KeptRange). TouchesLittle w.0 q c.args.query.p w.1 told.new.state) (λ i. (c.in_ok-state.ensures.list i, own i)) (c.in_ok-told.ensures.little q stands is.behind bare) in
    λ after there.
    subst (TouchesLittle (list c.args.lowest.now) q c.args.query.p s)
    (held_once c.args.query.at told.new.state after (sym (given_back (holds told.new.reader.lowest.now) (holds c.give_back.new.self) c.in-Some.id (Held c.args.query.at told.new.state)
    (Lent c.args.query.at told.new.state.range) lent back) ∙ ap (slice_get (holds c.give_back.new.self).slots) same ∙ there)) little

pub returns-clause-cost : goal.returns-clause-cost
returns-clause-cost g c = λ id q s cell ranked is.
    let list = g.S.Reader.list in
    let holds = g.S.Cells.holdings in
    let told = c.changes_since-told in
    let same : c.in-Some.id ≡ id = same_Some c.in-Some.id id (sym c.in-Some.is ∙ cell) in
    let past = behind_not_past (list c.args.lowest.now) (holds c.args.lowest.now).slots id c.args.query.at q c.args.query.p c.args.part.now.range s is in
    let found = c.in_ok-state.ensures.held s (ap (slice_get (holds c.args.lowest.now).slots) same ∙ is.held) ranked past is.whole in
    let own : c.in-Some-2.state ≡ s = same_Some c.in-Some-2.state s (sym c.in-Some-2.is ∙ found) in
    let stands : StandsAt q c.in-Some-2.state = subst (StandsAt q) (sym own) is.stands in
    let bare : AreBareThroughout (list c.lend.new.self) q c.args.query.p c.in-Some-2.state.kept.needs =
    subst (λ (w : History × KeptRange). AreBareThroughout w.0 q c.args.query.p w.1.kept.needs) (λ i. (sym c.in_ok-state.ensures.list i, sym own i)) is.bare in
    subst (λ (w : History × KeptRange). told.new.steps ≤ c.args.steps.now + advance_steps w.0 q c.args.query.p w.1.kept.needs + 1 + told_count c.in_ok-told.field-0) (λ i. (c.in_ok-state.ensures.list i, own i))
    (c.in_ok-told.ensures.cost q stands is.behind bare)
