use Rattle.std.proofs.Common.{◌≡◌, ℕ, ◌+◌, ◌≤◌, length, Option, IfSome, Some, true, sym, ap, ◌∙◌, subst, inl, inr, ⊎_elim, arith}
use Rattle.std.specs.Option.{IsSomeAnd}
use Rattle.std.proofs.lemmas.Option.{none-some, same_Some}
use Rattle.join_eval.proofs.MovesLemmas.{moves_trans}
use Rattle.rank_layers.proofs.PartLemmas.{right_after}
use Rattle.kept_ranges.specs.Sound.{KeptRange}
use Rattle.range_state.specs.Ready.{IsReady, StandsAt, pending_meets}
use Rattle.cell_slots.specs.Serving.{HasTooMany, StandsFrom, WasAdvanced, WasMended}
use Rattle.cell_slots.proofs.AdvancedLemmas.{on_err_always}
use Rattle.cell_slots.proofs.LongerLemmas.{advanced_before, mended_before, reach_before}
use Rattle.cell_slots.proofs.UpToLemmas.{many_over}
use Rattle.shared_cells.specs.Advancing.{StandsBare}
use Rattle.shared_cells.specs.Cells.{IsHeldOrEmpty, IsHeldOrStandsAt, IsLentFor, KeepsWithin}
use Rattle.shared_cells.proofs.CellLemmas.{fill_of_lent, held_there, lent_within, right_of_lent, rank_of_lent, output_of_lent, served_cell, stands_longer}
use Rattle.shared_cells.proofs.cell.Cell.serve.Goals as goal

pub serve_up_to-read-requires-clause-stands : goal.serve_up_to-read-requires-clause-stands
serve_up_to-read-requires-clause-stands g c =
    let lent = subst (λ o. IfSome o (IsLentFor c.lend.new.self c.args.query.at c.args.query.rank c.args.query.p c.args.part.now)) c.in-Some.is c.in_ok-state.ensures.lent in
    rank_of_lent c.lend.new.self (g.R.Reader.list c.args.reader.now) (g.R.Reader.list c.lend.new.reader) c.args.query.at c.args.query.rank c.args.query.p c.args.part.now c.in-Some.state c.requires.stands.0
    c.requires.within c.lend.ensures.moves.kept c.lend.ensures.met lent c.requires.stands.1

pub serve_up_to-read-requires-clause-from : goal.serve_up_to-read-requires-clause-from
serve_up_to-read-requires-clause-from g c = subst (λ o. IfSome o (StandsFrom (g.R.Reader.floor c.lend.new.reader))) c.in-Some.is c.in_ok-state.ensures.from

pub serve_up_to-read-requires-clause-above : goal.serve_up_to-read-requires-clause-above
serve_up_to-read-requires-clause-above g c = subst (λ (n : ℕ). n ≤ c.args.query.p) (sym c.lend.ensures.moves.same_floor) c.requires.above

pub give_back-requires-clause-right : goal.give_back-requires-clause-right
give_back-requires-clause-right g c =
    let list = g.R.Reader.list in
    let lent = subst (λ o. IfSome o (IsLentFor c.lend.new.self c.args.query.at c.args.query.rank c.args.query.p c.args.part.now)) c.in-Some.is c.in_ok-state.ensures.lent in
    right_after (list c.lend.new.reader) (list c.serve_up_to-read.new.reader) c.lend.new.self.at c.in-Some.state c.serve_up_to-read.new.state c.serve_up_to-read.ensures.moves.kept
    (right_of_lent c.lend.new.self (list c.lend.new.reader) c.args.query.at c.args.query.rank c.args.query.p c.args.part.now c.in-Some.state c.lend.ensures.met lent)
    c.serve_up_to-read.ensures.same c.serve_up_to-read.ensures.sound

pub returns-in_err-read-clause-moves : goal.returns-in_err-read-clause-moves
returns-in_err-read-clause-moves g c =
    let list = g.R.Reader.list in let floor = g.R.Reader.floor in let went = g.R.Reader.went in
    moves_trans list floor went c.args.reader.now c.lend.new.reader c.give_back.new.reader (g.met.R.Reader.went_trans c.args.reader.now c.lend.new.reader c.give_back.new.reader) c.lend.ensures.moves
    (moves_trans list floor went c.lend.new.reader c.serve_up_to-read.new.reader c.give_back.new.reader (g.met.R.Reader.went_trans c.lend.new.reader c.serve_up_to-read.new.reader c.give_back.new.reader)
    c.serve_up_to-read.ensures.moves c.give_back.ensures.moves)

pub returns-clause-output : goal.returns-clause-output
returns-clause-output g c =
    let lent = subst (λ o. IfSome o (IsLentFor c.lend.new.self c.args.query.at c.args.query.rank c.args.query.p c.args.part.now)) c.in-Some.is c.in_ok-state.ensures.lent in
    output_of_lent c.lend.new.self (g.R.Reader.list c.args.reader.now) (g.R.Reader.list c.lend.new.reader) c.args.query.at c.args.query.rank c.args.query.p c.args.part.now c.in-Some.state c.in_ok-read.field-0.items
    c.requires.within c.lend.ensures.moves.kept c.lend.ensures.met lent c.in_ok-read.ensures.given.output

pub returns-clause-moves : goal.returns-clause-moves
returns-clause-moves g c =
    let list = g.R.Reader.list in let floor = g.R.Reader.floor in let went = g.R.Reader.went in
    moves_trans list floor went c.args.reader.now c.lend.new.reader c.give_back.new.reader (g.met.R.Reader.went_trans c.args.reader.now c.lend.new.reader c.give_back.new.reader) c.lend.ensures.moves
    (moves_trans list floor went c.lend.new.reader c.serve_up_to-read.new.reader c.give_back.new.reader (g.met.R.Reader.went_trans c.lend.new.reader c.serve_up_to-read.new.reader c.give_back.new.reader)
    c.serve_up_to-read.ensures.moves c.give_back.ensures.moves)

pub returns-in_err-read-clause-left : goal.returns-in_err-read-clause-left
returns-in_err-read-clause-left g c = λ cannot. absurd (none-some c.in-Some.state (sym (c.in_ok-state.ensures.none cannot) ∙ c.in-Some.is))

pub returns-in_err-read-clause-idle : goal.returns-in_err-read-clause-idle
returns-in_err-read-clause-idle g c = λ cannot. absurd (none-some c.in-Some.state (sym (c.in_ok-state.ensures.none cannot) ∙ c.in-Some.is))

pub returns-clause-idle : goal.returns-clause-idle
returns-clause-idle g c = λ cannot. absurd (none-some c.in-Some.state (sym (c.in_ok-state.ensures.none cannot) ∙ c.in-Some.is))

pub returns-clause-none : goal.returns-clause-none
returns-clause-none g c = λ cannot. absurd (none-some c.in-Some.state (sym (c.in_ok-state.ensures.none cannot) ∙ c.in-Some.is))

pub returns-clause-left : goal.returns-clause-left
returns-clause-left g c = λ cannot. absurd (none-some c.in-Some.state (sym (c.in_ok-state.ensures.none cannot) ∙ c.in-Some.is))

pub returns-clause-ready : goal.returns-clause-ready
returns-clause-ready g c =
    let lent = subst (λ o. IfSome o (IsLentFor c.lend.new.self c.args.query.at c.args.query.rank c.args.query.p c.args.part.now)) c.in-Some.is c.in_ok-state.ensures.lent in
    served_cell c.lend.new.self c.give_back.new.self (g.R.Reader.list c.args.reader.now) (g.R.Reader.list c.lend.new.reader) c.args.query.at c.args.query.rank c.args.query.p c.args.most c.args.part.now c.in-Some.state
    c.serve_up_to-read.new.state c.requires.within c.lend.ensures.moves.kept lent c.give_back.ensures.same_place c.give_back.ensures.held c.in_ok-read.ensures.given.kept

-- ---- what is kept

pub returns-in_default-clause-still : goal.returns-in_default-clause-still
returns-in_default-clause-still g c = λ ready. absurd (none-some ready.state (sym c.in_default.is ∙ c.in_ok-state.ensures.ready ready ∙ ready.holds))

pub returns-clause-still : goal.returns-clause-still
returns-clause-still g c = λ ready.
    let p = c.args.query.p in
    let own : c.in-Some.state ≡ ready.state = same_Some c.in-Some.state ready.state (sym c.in-Some.is ∙ c.in_ok-state.ensures.ready ready ∙ ready.holds) in
    let there : IsReady p c.args.part.now c.in-Some.state = subst (IsReady p c.args.part.now) (sym own) ready.ready in
    c.give_back.ensures.held ∙ ap (λ (s : KeptRange). Some s) (c.in_ok-read.ensures.still there ∙ own) ∙ sym ready.holds

pub returns-in_default-clause-few : goal.returns-in_default-clause-few
returns-in_default-clause-few g c = λ few.
    subst (KeepsWithin c.args.most) (sym (c.lend.ensures.left (λ can. c.in_ok-state.ensures.served can c.in_default.is))) few

pub returns-clause-few : goal.returns-clause-few
returns-clause-few g c = λ few.
    let whose : IsHeldOrEmpty c.args.self.now.held c.in-Some.state = subst (λ o. IfSome o (IsHeldOrEmpty c.args.self.now.held)) c.in-Some.is c.in_ok-state.ensures.whose in
    let had = lent_within c.args.most c.args.self.now.held c.in-Some.state whose few in
    subst (KeepsWithin c.args.most) (sym c.give_back.ensures.held) (c.in_ok-read.ensures.few had)

pub returns-in_err-state-clause-err : goal.returns-in_err-state-clause-err
returns-in_err-state-clause-err g c =
    on_err_always c.from_residual.result (subst (IsHeldOrStandsAt c.args.query.p c.args.self.now.held) (sym c.in_err-state.ensures.err) tt)

pub returns-in_err-read-clause-err : goal.returns-in_err-read-clause-err
returns-in_err-read-clause-err g c =
    let whose : IsHeldOrEmpty c.args.self.now.held c.in-Some.state = subst (λ o. IfSome o (IsHeldOrEmpty c.args.self.now.held)) c.in-Some.is c.in_ok-state.ensures.whose in
    on_err_always c.from_residual-in_err-read.result
    (held_there c.args.query.p c.args.self.now.held c.give_back.new.self.held c.in-Some.state c.serve_up_to-read.new.state whose c.give_back.ensures.held c.in_err-read.ensures.err)

-- ---- what is not filled anew, unless it would have too many needs

pub returns-clause-behind : goal.returns-clause-behind
returns-clause-behind g c = λ s q can is.
    let h = g.R.Reader.list c.args.reader.now in
    let more = g.R.Reader.list c.lend.new.reader in
    let p = c.args.query.p in
    let part = c.args.part.now in
    let most : Option ℕ = Some c.args.most in
    let kept = c.lend.ensures.moves.kept in
    let new = c.serve_up_to-read.new in
    let spent = c.args.steps.now + 1 + length c.in_ok-read.field-0.items in
    let own : c.in-Some.state ≡ s = same_Some c.in-Some.state s (sym c.in-Some.is ∙ c.in_ok-state.ensures.kept s can) in
    let there : StandsBare more q p c.in-Some.state = stands_longer h more q p s c.in-Some.state kept c.requires.within own is in
    let order : q ≤ p = let less = is.behind in omega (arith, less) in
    ⊎_elim
    (λ (was : WasAdvanced more q p part c.in-Some.state new.state spent new.steps).
    inl (subst (λ (o : Option KeptRange). IsSomeAnd o (λ after. WasAdvanced h q p part s after spent new.steps)) (sym c.give_back.ensures.held)
    (advanced_before h more q p part s new.state spent new.steps kept c.requires.within order
    (subst (λ (t : KeptRange). WasAdvanced more q p part t new.state spent new.steps) own was))))
    (λ (many : HasTooMany most more p part c.in-Some.state). inr (many_over most h more p part s kept c.requires.within (subst (λ (t : KeptRange). HasTooMany most more p part t) own many)))
    (c.in_ok-read.ensures.behind q there.stands there.behind there.bare)

pub returns-clause-pending : goal.returns-clause-pending
returns-clause-pending g c = λ s can stands meets.
    let h = g.R.Reader.list c.args.reader.now in
    let more = g.R.Reader.list c.lend.new.reader in
    let p = c.args.query.p in
    let part = c.args.part.now in
    let most : Option ℕ = Some c.args.most in
    let kept = c.lend.ensures.moves.kept in
    let new = c.serve_up_to-read.new in
    let spent = c.args.steps.now + 1 + length c.in_ok-read.field-0.items in
    let own : c.in-Some.state ≡ s = same_Some c.in-Some.state s (sym c.in-Some.is ∙ c.in_ok-state.ensures.kept s can) in
    let at : StandsAt p c.in-Some.state = subst (StandsAt p) (sym own) stands in
    let some : pending_meets c.in-Some.state part ≡ true = ap (λ (k : KeptRange). pending_meets k part) own ∙ meets in
    ⊎_elim
    (λ (was : WasMended more p part c.in-Some.state new.state spent new.steps).
    inl (subst (λ (o : Option KeptRange). IsSomeAnd o (λ after. WasMended h p part s after spent new.steps)) (sym c.give_back.ensures.held)
    (mended_before h more p part s new.state spent new.steps kept c.requires.within
    (subst (λ (t : KeptRange). WasMended more p part t new.state spent new.steps) own was))))
    (λ (many : HasTooMany most more p part c.in-Some.state). inr (many_over most h more p part s kept c.requires.within (subst (λ (t : KeptRange). HasTooMany most more p part t) own many)))
    (c.in_ok-read.ensures.pending at some)

-- ---- what is counted

pub returns-clause-least : goal.returns-clause-least
returns-clause-least g c = λ s can.
    let spent = c.args.steps.now + 1 + length c.in_ok-read.field-0.items in
    let own : c.in-Some.state ≡ s = same_Some c.in-Some.state s (sym c.in-Some.is ∙ c.in_ok-state.ensures.kept s can) in
    reach_before (g.R.Reader.list c.args.reader.now) (g.R.Reader.list c.lend.new.reader) c.args.query.p s c.in-Some.state spent c.serve_up_to-read.new.steps c.lend.ensures.moves.kept c.requires.within own c.in_ok-read.ensures.least

pub returns-clause-least_filled : goal.returns-clause-least_filled
returns-clause-least_filled g c = λ j stands away.
    let query = c.args.query in
    let lend = c.lend in
    let floor = g.R.Reader.floor c.args.reader.now in
    let spent = c.args.steps.now + 1 + length c.in_ok-read.field-0.items in
    let lent : IsLentFor lend.new.self query.at query.rank query.p c.args.part.now c.in-Some.state =
    subst (λ o. IfSome o (IsLentFor lend.new.self query.at query.rank query.p c.args.part.now)) c.in-Some.is c.in_ok-state.ensures.lent in
    let whose : IsHeldOrEmpty c.args.self.now.held c.in-Some.state = subst (λ o. IfSome o (IsHeldOrEmpty c.args.self.now.held)) c.in-Some.is c.in_ok-state.ensures.whose in
    let there : StandsFrom (g.R.Reader.floor lend.new.reader) c.in-Some.state = subst (λ o. IfSome o (StandsFrom (g.R.Reader.floor lend.new.reader))) c.in-Some.is c.in_ok-state.ensures.from in
    let from : StandsFrom floor c.in-Some.state = subst (λ (n : ℕ). StandsFrom n c.in-Some.state) lend.ensures.moves.same_floor there in
    fill_of_lent lend.new.self (g.R.Reader.list c.args.reader.now) (g.R.Reader.list lend.new.reader) query.at query.rank query.p floor spent c.serve_up_to-read.new.steps c.args.part.now c.args.self.now.range c.args.self.now.held c.in-Some.state j
    c.requires.within lend.ensures.moves.kept lend.ensures.met lent stands lend.ensures.same_place.range away whose from c.in_ok-read.ensures.least
