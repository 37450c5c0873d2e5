use Rattle.std.proofs.Common.{ℕ, IfErr, OnOk, take, inr, refl, sym, subst}
use Rattle.std.proofs.lemmas.Result.{IfErr-weaker, on_err_weaker, on_ok_weaker}
use Rattle.semantics.specs.States.{below}
use Rattle.join_eval.specs.Bounds.{OnTooWide, most_of}
use Rattle.join_eval.proofs.CollectingLemmas.{on_too_wide_always}
use Rattle.kept_ranges.specs.Sound.{KeptRange}
use Rattle.range_state.specs.Work.{TakesTooMany}
use Rattle.cell_slots.specs.Serving.{CountsFill, StandsFrom}
use Rattle.cell_slots.proofs.AdvancedLemmas.{filled_within}
use Rattle.cell_slots.proofs.CountingLemmas.{advance_counts}
use Rattle.shared_cells.proofs.advancing.advance_to.Goals as goal

pub returns-then-stands_from-clause-advanced : goal.returns-then-stands_from-clause-advanced
returns-then-stands_from-clause-advanced g c =
    let from = subst (λ (n : ℕ). StandsFrom n c.args.state.now) c.least_position.ensures (c.if-stands_from.ensures.yes refl) in
    on_ok_weaker c.catch_up.result (λ advanced. record { advanced = λ _. advanced; filled = λ below. absurd (below from) }) c.catch_up.ensures.advanced

pub returns-clause-err : goal.returns-clause-err
returns-clause-err g c = on_err_weaker c.fill.result (λ forgotten. inr forgotten) c.fill.ensures.err

pub returns-then-stands_from-clause-little : goal.returns-then-stands_from-clause-little
returns-then-stands_from-clause-little g c = λ q from is. c.catch_up.ensures.little q is.stands is.behind is.bare

pub returns-then-stands_from-clause-cost : goal.returns-then-stands_from-clause-cost
returns-then-stands_from-clause-cost g c = λ q from is. c.catch_up.ensures.cost q is.stands is.behind is.bare

pub returns-then-stands_from-clause-known : goal.returns-then-stands_from-clause-known
returns-then-stands_from-clause-known g c = λ q from is. c.catch_up.ensures.known q is.stands is.behind is.bare

pub returns-clause-known : goal.returns-clause-known
returns-clause-known g c = λ q from is. absurd (c.if-stands_from.ensures.no refl (subst (λ (n : ℕ). StandsFrom n c.args.state.now) (sym c.least_position.ensures) from))

pub returns-clause-few : goal.returns-clause-few
returns-clause-few g c =
    let mid = c.forget.new.self in
    on_ok_weaker c.fill.result (λ few _. few)
    (filled_within c.fill.result (most_of c.args.bound) c.args.p (below (take c.args.p (g.R.Reader.list c.args.reader.now)) mid.rank) mid c.fill.new.self c.fill.ensures.filled c.fill.ensures.few)

pub returns-clause-little : goal.returns-clause-little
returns-clause-little g c = λ q from is. absurd (c.if-stands_from.ensures.no refl (subst (λ (n : ℕ). StandsFrom n c.args.state.now) (sym c.least_position.ensures) from))

pub returns-clause-cost : goal.returns-clause-cost
returns-clause-cost g c = λ q from is. absurd (c.if-stands_from.ensures.no refl (subst (λ (n : ℕ). StandsFrom n c.args.state.now) (sym c.least_position.ensures) from))

pub returns-clause-wide : goal.returns-clause-wide
returns-clause-wide g c =
    subst (λ (s : KeptRange). IfErr c.fill.result (OnTooWide (TakesTooMany (most_of c.args.bound) (g.R.Reader.list c.args.reader.now) c.args.p s))) c.forget.ensures c.fill.ensures.wide

pub returns-clause-gone : goal.returns-clause-gone
returns-clause-gone g c = IfErr-weaker c.fill.result _ _ (λ fault nothing. on_too_wide_always fault nothing) c.fill.ensures.err

-- ---- what is counted

pub returns-then-stands_from-clause-least : goal.returns-then-stands_from-clause-least
returns-then-stands_from-clause-least g c = λ q stands less.
    on_ok_weaker c.catch_up.result (λ counts. advance_counts (g.R.Reader.list c.args.reader.now) c.args.p c.args.state.now c.catch_up.new.state c.args.steps.now c.catch_up.new.steps counts) (c.catch_up.ensures.least q stands less)

pub returns-clause-least : goal.returns-clause-least
returns-clause-least g c = λ q stands less.
    on_ok_weaker c.fill.result (λ counts. inr counts)
    (subst (λ (s : KeptRange). OnOk c.fill.result (CountsFill (g.R.Reader.list c.args.reader.now) c.args.p s c.args.steps.now c.fill.new.steps)) c.forget.ensures c.fill.ensures.least)
