use Rattle.std.proofs.Common.{◌≡◌, ◌+◌, ◌≤◌, IfSome, sym, ◌∙◌, subst, arith}
use Rattle.std.specs.Option.{IsSomeAnd}
use Rattle.std.proofs.lemmas.Result.{IfOk-weaker, on_err_weaker, on_ok_weaker}
use Rattle.join_eval.proofs.MovesLemmas.{moves_trans}
use Rattle.std.proofs.lemmas.Option.{none-some, same_Some}
use Rattle.rank_layers.proofs.PartLemmas.{right_after}
use Rattle.kept_ranges.specs.Sound.{KeptRange}
use Rattle.range_state.specs.Ready.{StandsAt}
use Rattle.range_state.specs.Since.{AnswersSince, told_count}
use Rattle.range_state.specs.Work.{TouchesLittle}
use Rattle.cell_slots.specs.Serving.{IsCaughtUp, StandsFrom}
use Rattle.cell_slots.proofs.AdvancedLemmas.{on_err_always}
use Rattle.cell_slots.proofs.LongerLemmas.{forward_before, little_before, steps_before}
use Rattle.shared_cells.specs.Advancing.{StandsBare}
use Rattle.shared_cells.specs.Cells.{IsHeldOrEmpty, IsHeldOrStandsAt, IsLentFor, KeepsWithin}
use Rattle.shared_cells.proofs.CellLemmas.{held_there, lent_within, right_of_lent, rank_of_lent, stands_longer, told_of_lent, wide_cell}
use Rattle.shared_cells.proofs.cell.Cell.changes_since.Goals as goal

pub changes_since-told-requires-clause-stands : goal.changes_since-told-requires-clause-stands
changes_since-told-requires-clause-stands g c =
    let lent = subst (λ o. IfSome o (IsLentFor c.lend.new.self c.args.query.at c.args.query.rank c.args.query.p c.args.part.now)) c.in-Some.is c.in_ok-state.ensures.lent in
    rank_of_lent c.lend.new.self (g.R.Reader.list c.args.reader.now) (g.R.Reader.list c.lend.new.reader) c.args.query.at c.args.query.rank c.args.query.p c.args.part.now c.in-Some.state c.requires.stands.0
    c.requires.within c.lend.ensures.moves.kept c.lend.ensures.met lent c.requires.stands.1

pub changes_since-told-requires-clause-from : goal.changes_since-told-requires-clause-from
changes_since-told-requires-clause-from g c = subst (λ o. IfSome o (StandsFrom (g.R.Reader.floor c.lend.new.reader))) c.in-Some.is c.in_ok-state.ensures.from

pub give_back-requires-clause-right : goal.give_back-requires-clause-right
give_back-requires-clause-right g c =
    let list = g.R.Reader.list in
    let lent = subst (λ o. IfSome o (IsLentFor c.lend.new.self c.args.query.at c.args.query.rank c.args.query.p c.args.part.now)) c.in-Some.is c.in_ok-state.ensures.lent in
    right_after (list c.lend.new.reader) (list c.changes_since-told.new.reader) c.lend.new.self.at c.in-Some.state c.changes_since-told.new.state c.changes_since-told.ensures.moves.kept
    (right_of_lent c.lend.new.self (list c.lend.new.reader) c.args.query.at c.args.query.rank c.args.query.p c.args.part.now c.in-Some.state c.lend.ensures.met lent)
    c.changes_since-told.ensures.same c.changes_since-told.ensures.sound

pub returns-clause-told : goal.returns-clause-told
returns-clause-told g c =
    let lent = subst (λ o. IfSome o (IsLentFor c.lend.new.self c.args.query.at c.args.query.rank c.args.query.p c.args.part.now)) c.in-Some.is c.in_ok-state.ensures.lent in
    IfOk-weaker c.changes_since-told.result _ _ (λ told is j stands.
    told_of_lent c.lend.new.self (g.R.Reader.list c.args.reader.now) (g.R.Reader.list c.lend.new.reader) c.args.query.at c.args.query.rank c.args.since c.args.query.p c.args.part.now c.in-Some.state j told
    c.requires.order c.requires.within c.lend.ensures.moves.kept c.lend.ensures.met lent stands is) c.changes_since-told.ensures.told

pub returns-clause-moves : goal.returns-clause-moves
returns-clause-moves g c =
    let list = g.R.Reader.list in let floor = g.R.Reader.floor in let went = g.R.Reader.went in
    moves_trans list floor went c.args.reader.now c.lend.new.reader c.give_back.new.reader (g.met.R.Reader.went_trans c.args.reader.now c.lend.new.reader c.give_back.new.reader) c.lend.ensures.moves
    (moves_trans list floor went c.lend.new.reader c.changes_since-told.new.reader c.give_back.new.reader (g.met.R.Reader.went_trans c.lend.new.reader c.changes_since-told.new.reader c.give_back.new.reader)
    c.changes_since-told.ensures.moves c.give_back.ensures.moves)

pub returns-in_default-clause-since : goal.returns-in_default-clause-since
returns-in_default-clause-since g c = λ s can. absurd (none-some s (sym c.in_default.is ∙ c.in_ok-state.ensures.kept s can))

pub returns-clause-since : goal.returns-clause-since
returns-clause-since g c = λ s can.
    IfOk-weaker c.changes_since-told.result _ _ (λ told answers. subst (λ held. IsSomeAnd held (λ after. AnswersSince c.args.since c.args.part.now after told)) (sym c.give_back.ensures.held) answers) c.changes_since-told.ensures.since

pub returns-clause-advanced : goal.returns-clause-advanced
returns-clause-advanced g c = λ s can.
    let lent : c.in-Some.state ≡ s = same_Some c.in-Some.state s (sym c.in-Some.is ∙ c.in_ok-state.ensures.kept s can) in
    on_ok_weaker c.changes_since-told.result (λ advanced.
    subst (λ held. IsSomeAnd held (IsCaughtUp c.args.query.p s)) (sym c.give_back.ensures.held)
    (subst (λ (t : KeptRange). IsCaughtUp c.args.query.p t c.changes_since-told.new.state) lent advanced)) c.changes_since-told.ensures.advanced

pub returns-clause-wide : goal.returns-clause-wide
returns-clause-wide g c =
    let told = c.changes_since-told in
    wide_cell told.result c.give_back.new.self (g.R.Reader.list c.args.reader.now) (g.R.Reader.list c.lend.new.reader) c.args.query.p c.args.most c.in-Some.state told.new.state
    c.requires.within c.lend.ensures.moves.kept c.give_back.ensures.held told.ensures.same told.ensures.wide told.ensures.gone

pub returns-in_default-clause-few : goal.returns-in_default-clause-few
returns-in_default-clause-few g c = λ few.
    subst (KeepsWithin c.args.most) (sym (c.lend.ensures.left (λ can. c.in_ok-state.ensures.served can c.in_default.is))) few

pub returns-clause-few : goal.returns-clause-few
returns-clause-few g c = λ few.
    let told = c.changes_since-told in
    let whose : IsHeldOrEmpty c.args.self.now.held c.in-Some.state = subst (λ o. IfSome o (IsHeldOrEmpty c.args.self.now.held)) c.in-Some.is c.in_ok-state.ensures.whose in
    let had = lent_within c.args.most c.args.self.now.held c.in-Some.state whose few in
    on_ok_weaker told.result (λ stays. subst (KeepsWithin c.args.most) (sym c.give_back.ensures.held) (stays had)) told.ensures.few

pub returns-in_err-state-clause-err : goal.returns-in_err-state-clause-err
returns-in_err-state-clause-err g c =
    on_err_always c.from_residual.result (subst (IsHeldOrStandsAt c.args.query.p c.args.self.now.held) (sym c.in_err-state.ensures.err) tt)

pub returns-clause-err : goal.returns-clause-err
returns-clause-err g c =
    let told = c.changes_since-told in
    let whose : IsHeldOrEmpty c.args.self.now.held c.in-Some.state = subst (λ o. IfSome o (IsHeldOrEmpty c.args.self.now.held)) c.in-Some.is c.in_ok-state.ensures.whose in
    on_err_weaker told.result (λ left. held_there c.args.query.p c.args.self.now.held c.give_back.new.self.held c.in-Some.state told.new.state whose c.give_back.ensures.held left) told.ensures.err

pub returns-clause-known : goal.returns-clause-known
returns-clause-known g c = λ s q can is.
    let list = g.R.Reader.list in
    let lent : c.in-Some.state ≡ s = same_Some c.in-Some.state s (sym c.in-Some.is ∙ c.in_ok-state.ensures.kept s can) in
    let there : StandsBare (list c.lend.new.reader) q c.args.query.p c.in-Some.state = stands_longer (list c.args.reader.now) (list c.lend.new.reader) q c.args.query.p s c.in-Some.state c.lend.ensures.moves.kept c.requires.within lent is in
    c.changes_since-told.ensures.known q there.stands there.behind there.bare

pub returns-clause-left : goal.returns-clause-left
returns-clause-left g c = λ cannot. absurd (none-some c.in-Some.state (sym (c.in_ok-state.ensures.none cannot) ∙ c.in-Some.is))

pub returns-clause-idle : goal.returns-clause-idle
returns-clause-idle g c = λ cannot. absurd (none-some c.in-Some.state (sym (c.in_ok-state.ensures.none cannot) ∙ c.in-Some.is))

pub returns-in_default-clause-little : goal.returns-in_default-clause-little
returns-in_default-clause-little g c = λ s q can is. absurd (none-some s (sym c.in_default.is ∙ c.in_ok-state.ensures.kept s can))

pub returns-in_default-clause-cost : goal.returns-in_default-clause-cost
returns-in_default-clause-cost g c = λ s q can is. absurd (none-some s (sym c.in_default.is ∙ c.in_ok-state.ensures.kept s can))

pub returns-clause-little : goal.returns-clause-little
returns-clause-little g c = λ s q can is.
    let list = g.R.Reader.list in
    let kept = c.lend.ensures.moves.kept in
    let lent : c.in-Some.state ≡ s = same_Some c.in-Some.state s (sym c.in-Some.is ∙ c.in_ok-state.ensures.kept s can) in
    let there : StandsBare (list c.lend.new.reader) q c.args.query.p c.in-Some.state = stands_longer (list c.args.reader.now) (list c.lend.new.reader) q c.args.query.p s c.in-Some.state kept c.requires.within lent is in
    let order : q ≤ c.args.query.p = let less = is.behind in omega (arith, less) in
    on_ok_weaker c.changes_since-told.result (λ little.
    subst (λ held. IsSomeAnd held (TouchesLittle (list c.args.reader.now) q c.args.query.p s)) (sym c.give_back.ensures.held)
    (little_before (list c.args.reader.now) (list c.lend.new.reader) q c.args.query.p s c.changes_since-told.new.state kept c.requires.within order
    (subst (λ (t : KeptRange). TouchesLittle (list c.lend.new.reader) q c.args.query.p t c.changes_since-told.new.state) lent little))) (c.changes_since-told.ensures.little q there.stands there.behind there.bare)

pub returns-clause-cost : goal.returns-clause-cost
returns-clause-cost g c = λ s q can is.
    let list = g.R.Reader.list in
    let kept = c.lend.ensures.moves.kept in
    let lent : c.in-Some.state ≡ s = same_Some c.in-Some.state s (sym c.in-Some.is ∙ c.in_ok-state.ensures.kept s can) in
    let there : StandsBare (list c.lend.new.reader) q c.args.query.p c.in-Some.state = stands_longer (list c.args.reader.now) (list c.lend.new.reader) q c.args.query.p s c.in-Some.state kept c.requires.within lent is in
    let order : q ≤ c.args.query.p = let less = is.behind in omega (arith, less) in
    IfOk-weaker c.changes_since-told.result _ _ (λ told few.
    subst (λ n. c.changes_since-told.new.steps ≤ c.args.steps.now + n + 1 + told_count told) (steps_before (list c.args.reader.now) (list c.lend.new.reader) q c.args.query.p s c.in-Some.state kept c.requires.within order lent) few)
    (c.changes_since-told.ensures.cost q there.stands there.behind there.bare)

-- ---- what is counted

pub returns-in_default-clause-least : goal.returns-in_default-clause-least
returns-in_default-clause-least g c = λ s q can stands less. absurd (none-some s (sym c.in_default.is ∙ c.in_ok-state.ensures.kept s can))

pub returns-clause-least : goal.returns-clause-least
returns-clause-least g c = λ s q can stands less.
    let told = c.changes_since-told in
    let own : c.in-Some.state ≡ s = same_Some c.in-Some.state s (sym c.in-Some.is ∙ c.in_ok-state.ensures.kept s can) in
    IfOk-weaker told.result _ _ (λ changed counts.
    forward_before (g.R.Reader.list c.args.reader.now) (g.R.Reader.list c.lend.new.reader) c.args.query.p s c.in-Some.state (c.args.steps.now + 1 + told_count changed) told.new.steps c.lend.ensures.moves.kept c.requires.within own counts)
    (told.ensures.least q (subst (StandsAt q) (sym own) stands) less)
