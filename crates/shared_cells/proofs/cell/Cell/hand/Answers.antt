use Rattle.std.proofs.Common.{◌≡◌, ℕ, ◌+◌, ◌≤◌, length, IfSome, Option, Some, None, true, sym, ap, ◌∙◌, subst, refl, arith}
use Rattle.std.specs.Bool.{OnFalse}
use Rattle.std.specs.Option.{IsSomeAnd}
use Rattle.std.proofs.lemmas.Option.{none-some, same_Some}
use Rattle.join_eval.proofs.MovesLemmas.{moves_trans}
use Rattle.rank_layers.proofs.PartLemmas.{right_after}
use Rattle.semantics.specs.Texts.{Table}
use Rattle.kept_ranges.specs.Sound.{KeptRange}
use Rattle.range_state.specs.Ready.{IsReady, StandsAt, pending_meets}
use Rattle.cell_slots.specs.Serving.{StandsFrom, WasAdvanced, WasMended, output_within}
use Rattle.cell_slots.proofs.AdvancedLemmas.{on_err_always}
use Rattle.shared_cells.specs.Advancing.{StandsBare}
use Rattle.shared_cells.specs.Cells.{IsHeldOrEmpty, IsHeldOrStandsAt, IsLentFor}
use Rattle.shared_cells.proofs.CellLemmas.{held_there, lent_within, right_of_lent, rank_of_lent, output_of_lent, stands_longer}
use Rattle.shared_cells.proofs.HandingLemmas.{few_handed, handed_advanced, handed_mended, handed_reach, hands_out, kept_or_wide, on_false_so, on_true_so, output_before}
use Rattle.shared_cells.proofs.cell.Cell.hand.Goals as goal

pub hand_kept-handed-requires-clause-stands : goal.hand_kept-handed-requires-clause-stands
hand_kept-handed-requires-clause-stands g c =
    let lent = subst (λ o. IfSome o (IsLentFor c.lend.new.self c.args.query.at c.args.query.rank c.args.query.p c.args.part.now)) c.in-Some.is c.in_ok-state.ensures.lent in
    rank_of_lent c.lend.new.self (g.R.Reader.list c.args.reader.now) (g.R.Reader.list c.lend.new.reader) c.args.query.at c.args.query.rank c.args.query.p c.args.part.now c.in-Some.state c.requires.stands.0
    c.requires.within c.lend.ensures.moves.kept c.lend.ensures.met lent c.requires.stands.1

pub hand_kept-handed-requires-clause-from : goal.hand_kept-handed-requires-clause-from
hand_kept-handed-requires-clause-from g c = subst (λ o. IfSome o (StandsFrom (g.R.Reader.floor c.lend.new.reader))) c.in-Some.is c.in_ok-state.ensures.from

pub hand_kept-handed-requires-clause-above : goal.hand_kept-handed-requires-clause-above
hand_kept-handed-requires-clause-above g c = subst (λ (n : ℕ). n ≤ c.args.query.p) (sym c.lend.ensures.moves.same_floor) c.requires.above

pub give_back-requires-clause-right : goal.give_back-requires-clause-right
give_back-requires-clause-right g c =
    let list = g.R.Reader.list in
    let lent = subst (λ o. IfSome o (IsLentFor c.lend.new.self c.args.query.at c.args.query.rank c.args.query.p c.args.part.now)) c.in-Some.is c.in_ok-state.ensures.lent in
    right_after (list c.lend.new.reader) (list c.hand_kept-handed.new.reader) c.lend.new.self.at c.in-Some.state c.hand_kept-handed.new.state c.hand_kept-handed.ensures.moves.kept
    (right_of_lent c.lend.new.self (list c.lend.new.reader) c.args.query.at c.args.query.rank c.args.query.p c.args.part.now c.in-Some.state c.lend.ensures.met lent)
    c.hand_kept-handed.ensures.same c.hand_kept-handed.ensures.sound

pub returns-in_err-handed-clause-moves : goal.returns-in_err-handed-clause-moves
returns-in_err-handed-clause-moves g c =
    let list = g.R.Reader.list in let floor = g.R.Reader.floor in let went = g.R.Reader.went in
    moves_trans list floor went c.args.reader.now c.lend.new.reader c.give_back.new.reader (g.met.R.Reader.went_trans c.args.reader.now c.lend.new.reader c.give_back.new.reader) c.lend.ensures.moves
    (moves_trans list floor went c.lend.new.reader c.hand_kept-handed.new.reader c.give_back.new.reader (g.met.R.Reader.went_trans c.lend.new.reader c.hand_kept-handed.new.reader c.give_back.new.reader)
    c.hand_kept-handed.ensures.moves c.give_back.ensures.moves)

pub returns-clause-moves : goal.returns-clause-moves
returns-clause-moves g c =
    let list = g.R.Reader.list in let floor = g.R.Reader.floor in let went = g.R.Reader.went in
    moves_trans list floor went c.args.reader.now c.lend.new.reader c.give_back.new.reader (g.met.R.Reader.went_trans c.args.reader.now c.lend.new.reader c.give_back.new.reader) c.lend.ensures.moves
    (moves_trans list floor went c.lend.new.reader c.hand_kept-handed.new.reader c.give_back.new.reader (g.met.R.Reader.went_trans c.lend.new.reader c.hand_kept-handed.new.reader c.give_back.new.reader)
    c.hand_kept-handed.ensures.moves c.give_back.ensures.moves)

pub returns-clause-handed : goal.returns-clause-handed
returns-clause-handed g c =
    let list = g.R.Reader.list in
    let query = c.args.query in
    let lent = subst (λ o. IfSome o (IsLentFor c.lend.new.self query.at query.rank query.p c.args.part.now)) c.in-Some.is c.in_ok-state.ensures.lent in
    hands_out g.K.RowSink.got (list c.args.reader.now) query.p query.at query.rank c.args.part.now c.args.sink.now c.hand_kept-handed.new.sink c.args.steps.now c.hand_kept-handed.new.steps c.in_ok-handed.field-0
    (output_within c.in-Some.state (list c.lend.new.reader) query.p c.args.part.now)
    (output_of_lent c.lend.new.self (list c.args.reader.now) (list c.lend.new.reader) query.at query.rank query.p c.args.part.now c.in-Some.state (output_within c.in-Some.state (list c.lend.new.reader) query.p c.args.part.now)
    c.requires.within c.lend.ensures.moves.kept c.lend.ensures.met lent refl) c.in_ok-handed.ensures.output c.in_ok-handed.ensures.cost

-- ---- where it cannot serve

pub returns-in_err-handed-clause-left : goal.returns-in_err-handed-clause-left
returns-in_err-handed-clause-left g c = λ cannot. absurd (none-some c.in-Some.state (sym (c.in_ok-state.ensures.none cannot) ∙ c.in-Some.is))

pub returns-in_err-handed-clause-idle : goal.returns-in_err-handed-clause-idle
returns-in_err-handed-clause-idle g c = λ cannot. absurd (none-some c.in-Some.state (sym (c.in_ok-state.ensures.none cannot) ∙ c.in-Some.is))

pub returns-clause-left : goal.returns-clause-left
returns-clause-left g c = λ cannot. absurd (none-some c.in-Some.state (sym (c.in_ok-state.ensures.none cannot) ∙ c.in-Some.is))

pub returns-clause-idle : goal.returns-clause-idle
returns-clause-idle g c = λ cannot. absurd (none-some c.in-Some.state (sym (c.in_ok-state.ensures.none cannot) ∙ c.in-Some.is))

-- ---- what is kept

pub returns-in_default-clause-still : goal.returns-in_default-clause-still
returns-in_default-clause-still g c = λ ready. absurd (none-some ready.state (sym c.in_default.is ∙ c.in_ok-state.ensures.ready ready ∙ ready.holds))

pub returns-clause-still : goal.returns-clause-still
returns-clause-still g c = λ ready.
    let p = c.args.query.p in
    let own : c.in-Some.state ≡ ready.state = same_Some c.in-Some.state ready.state (sym c.in-Some.is ∙ c.in_ok-state.ensures.ready ready ∙ ready.holds) in
    let there : IsReady p c.args.part.now c.in-Some.state = subst (IsReady p c.args.part.now) (sym own) ready.ready in
    c.give_back.ensures.held ∙ ap (λ (s : KeptRange). Some s) (c.hand_kept-handed.ensures.still there ∙ own) ∙ sym ready.holds

pub returns-clause-few : goal.returns-clause-few
returns-clause-few g c = λ few.
    let whose : IsHeldOrEmpty c.args.self.now.held c.in-Some.state = subst (λ o. IfSome o (IsHeldOrEmpty c.args.self.now.held)) c.in-Some.is c.in_ok-state.ensures.whose in
    few_handed c.args.most c.in-Some.state c.hand_kept-handed.new.state c.give_back.new.self.held c.in_ok-handed.field-0 c.give_back.ensures.held (lent_within c.args.most c.args.self.now.held c.in-Some.state whose few) c.in_ok-handed.ensures.few

pub returns-in_default-clause-gone : goal.returns-in_default-clause-gone
returns-in_default-clause-gone g c = λ can. absurd (c.in_ok-state.ensures.served can c.in_default.is)

pub returns-clause-gone : goal.returns-clause-gone
returns-clause-gone g c = λ can.
    subst (λ (held : Option KeptRange). OnFalse c.in_ok-handed.field-0 (IfSome held (λ s. s.position ≡ None))) (sym c.give_back.ensures.held) c.in_ok-handed.ensures.gone

pub returns-in_err-state-clause-err : goal.returns-in_err-state-clause-err
returns-in_err-state-clause-err g c =
    on_err_always c.from_residual.result (subst (IsHeldOrStandsAt c.args.query.p c.args.self.now.held) (sym c.in_err-state.ensures.err) tt)

pub returns-in_err-handed-clause-err : goal.returns-in_err-handed-clause-err
returns-in_err-handed-clause-err g c =
    let whose : IsHeldOrEmpty c.args.self.now.held c.in-Some.state = subst (λ o. IfSome o (IsHeldOrEmpty c.args.self.now.held)) c.in-Some.is c.in_ok-state.ensures.whose in
    on_err_always c.from_residual-in_err-handed.result
    (held_there c.args.query.p c.args.self.now.held c.give_back.new.self.held c.in-Some.state c.hand_kept-handed.new.state whose c.give_back.ensures.held c.in_err-handed.ensures.err)

-- ---- what is not filled anew, unless it would have too many needs

pub returns-in_default-clause-wide : goal.returns-in_default-clause-wide
returns-in_default-clause-wide g c = λ s can. absurd (none-some s (sym c.in_default.is ∙ c.in_ok-state.ensures.kept s can))

pub returns-clause-wide : goal.returns-clause-wide
returns-clause-wide g c = λ s can.
    let own : c.in-Some.state ≡ s = same_Some c.in-Some.state s (sym c.in-Some.is ∙ c.in_ok-state.ensures.kept s can) in
    on_false_so c.in_ok-handed.field-0
    (kept_or_wide (Some c.args.most) (g.R.Reader.list c.args.reader.now) (g.R.Reader.list c.lend.new.reader) c.args.query.p c.args.part.now s c.in-Some.state c.lend.ensures.moves.kept c.requires.within own)
    c.in_ok-handed.ensures.wide

pub returns-clause-behind : goal.returns-clause-behind
returns-clause-behind g c = λ s q can is.
    let h = g.R.Reader.list c.args.reader.now in
    let more = g.R.Reader.list c.lend.new.reader in
    let p = c.args.query.p in
    let part = c.args.part.now in
    let kept = c.lend.ensures.moves.kept in
    let new = c.hand_kept-handed.new in
    let spent = c.args.steps.now + 1 + length (output_within s h p part) in
    let own : c.in-Some.state ≡ s = same_Some c.in-Some.state s (sym c.in-Some.is ∙ c.in_ok-state.ensures.kept s can) in
    let there : StandsBare more q p c.in-Some.state = stands_longer h more q p s c.in-Some.state kept c.requires.within own is in
    let order : q ≤ p = let less = is.behind in omega (arith, less) in
    on_true_so c.in_ok-handed.field-0
    (λ (was : WasAdvanced more q p part c.in-Some.state new.state (c.args.steps.now + 1 + length (output_within c.in-Some.state more p part)) new.steps).
    subst (λ (o : Option KeptRange). IsSomeAnd o (λ after. WasAdvanced h q p part s after spent new.steps)) (sym c.give_back.ensures.held)
    (handed_advanced h more q p c.args.steps.now new.steps part s c.in-Some.state new.state kept c.requires.within order own was))
    (c.in_ok-handed.ensures.behind q there.stands there.behind there.bare)

pub returns-clause-pending : goal.returns-clause-pending
returns-clause-pending g c = λ s can stands meets.
    let h = g.R.Reader.list c.args.reader.now in
    let more = g.R.Reader.list c.lend.new.reader in
    let p = c.args.query.p in
    let part = c.args.part.now in
    let kept = c.lend.ensures.moves.kept in
    let new = c.hand_kept-handed.new in
    let spent = c.args.steps.now + 1 + length (output_within s h p part) in
    let own : c.in-Some.state ≡ s = same_Some c.in-Some.state s (sym c.in-Some.is ∙ c.in_ok-state.ensures.kept s can) in
    let at : StandsAt p c.in-Some.state = subst (StandsAt p) (sym own) stands in
    let some : pending_meets c.in-Some.state part ≡ true = ap (λ (k : KeptRange). pending_meets k part) own ∙ meets in
    on_true_so c.in_ok-handed.field-0
    (λ (was : WasMended more p part c.in-Some.state new.state (c.args.steps.now + 1 + length (output_within c.in-Some.state more p part)) new.steps).
    subst (λ (o : Option KeptRange). IsSomeAnd o (λ after. WasMended h p part s after spent new.steps)) (sym c.give_back.ensures.held)
    (handed_mended h more p c.args.steps.now new.steps part s c.in-Some.state new.state kept c.requires.within own was))
    (c.in_ok-handed.ensures.pending at some)

-- ---- what is counted

pub returns-clause-least : goal.returns-clause-least
returns-clause-least g c = λ s can.
    let own : c.in-Some.state ≡ s = same_Some c.in-Some.state s (sym c.in-Some.is ∙ c.in_ok-state.ensures.kept s can) in
    on_true_so c.in_ok-handed.field-0
    (handed_reach (g.R.Reader.list c.args.reader.now) (g.R.Reader.list c.lend.new.reader) c.args.query.p c.args.steps.now c.hand_kept-handed.new.steps c.args.part.now s c.in-Some.state c.lend.ensures.moves.kept c.requires.within own)
    c.in_ok-handed.ensures.least

pub returns-in_default-clause-at_once : goal.returns-in_default-clause-at_once
returns-in_default-clause-at_once g c = λ ready. absurd (none-some ready.state (sym c.in_default.is ∙ c.in_ok-state.ensures.ready ready ∙ ready.holds))

pub returns-clause-at_once : goal.returns-clause-at_once
returns-clause-at_once g c = λ ready.
    let p = c.args.query.p in
    let part = c.args.part.now in
    let own : c.in-Some.state ≡ ready.state = same_Some c.in-Some.state ready.state (sym c.in-Some.is ∙ c.in_ok-state.ensures.ready ready ∙ ready.holds) in
    let there : IsReady p part c.in-Some.state = subst (IsReady p part) (sym own) ready.ready in
    c.in_ok-handed.ensures.at_once there
    ∙ ap (λ (rows : Table). c.args.steps.now + 1 + length rows) (output_before (g.R.Reader.list c.args.reader.now) (g.R.Reader.list c.lend.new.reader) p part ready.state c.in-Some.state c.lend.ensures.moves.kept c.requires.within own)
