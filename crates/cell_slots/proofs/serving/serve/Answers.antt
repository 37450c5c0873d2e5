use Rattle.std.proofs.Common.{ℕ, ◌+◌, length, inr, ap, ◌∙◌, arith}
use Rattle.std.proofs.lemmas.Result.{err_from_is_err_and}
use Rattle.cell_slots.proofs.AdvancedLemmas.{advanced_and_read, mended_and_read, on_err_always}
use Rattle.cell_slots.proofs.CountingLemmas.{reach_counted}
use Rattle.cell_slots.proofs.ServingLemmas.{same_output}
use Rattle.cell_slots.proofs.serving.serve.Goals as goal

pub returns-in_err-make_ready-clause-wide : goal.returns-in_err-make_ready-clause-wide
returns-in_err-make_ready-clause-wide g c =
    let p = err_from_is_err_and c.from_residual.result c.from_residual.ensures.1 in
    rw (p.1, p.2) c.in_err-make_ready.ensures.wide

pub returns-in_err-make_ready-clause-gone : goal.returns-in_err-make_ready-clause-gone
returns-in_err-make_ready-clause-gone g c =
    let p = err_from_is_err_and c.from_residual.result c.from_residual.ensures.1 in
    rw (p.1, p.2) c.in_err-make_ready.ensures.gone

pub returns-clause-output : goal.returns-clause-output
returns-clause-output g c =
    let list = g.R.Reader.list in
    let made = c.in_ok-make_ready.ensures in
    c.in_ok-pairs.ensures.output (list c.make_ready.new.reader) c.args.p (made.moves.entered c.requires.entered) made.ready.stands made.sound
    ∙ same_output c.args.state.now c.make_ready.new.state (list c.args.reader.now) (list c.make_ready.new.reader) c.args.p c.args.range.now made.same c.requires.within made.moves.kept

pub returns-clause-cost : goal.returns-clause-cost
returns-clause-cost g c = omega (arith, c.in_ok-pairs.ensures.cost, c.in_ok-make_ready.ensures.counted)

pub returns-clause-least : goal.returns-clause-least
returns-clause-least g c =
    reach_counted (g.R.Reader.list c.args.reader.now) c.args.p c.args.state.now c.args.steps.now c.make_ready.new.steps (c.args.steps.now + 1 + length c.in_ok-pairs.pairs.items) c.read.new.steps
    (λ steps low. omega (arith, low, c.in_ok-pairs.ensures.cost)) c.in_ok-make_ready.ensures.least

pub returns-clause-at_once : goal.returns-clause-at_once
returns-clause-at_once g c = λ ready. c.in_ok-pairs.ensures.cost ∙ ap (λ (n : ℕ). n + 1 + length c.in_ok-pairs.pairs.items) (c.in_ok-make_ready.ensures.free ready)

pub returns-clause-behind : goal.returns-clause-behind
returns-clause-behind g c = λ q stands less bare.
    advanced_and_read (g.R.Reader.list c.args.reader.now) q c.args.p c.args.range.now c.args.state.now c.make_ready.new.state c.args.steps.now c.make_ready.new.steps c.read.new.steps (length c.in_ok-pairs.pairs.items)
    (c.in_ok-make_ready.ensures.behind q stands less bare) c.in_ok-pairs.ensures.cost

pub returns-clause-pending : goal.returns-clause-pending
returns-clause-pending g c = λ stands meets.
    mended_and_read (g.R.Reader.list c.args.reader.now) c.args.p c.args.range.now c.args.state.now c.make_ready.new.state c.args.steps.now c.make_ready.new.steps c.read.new.steps (length c.in_ok-pairs.pairs.items)
    (c.in_ok-make_ready.ensures.pending stands meets) c.in_ok-pairs.ensures.cost

pub returns-in_err-make_ready-clause-err : goal.returns-in_err-make_ready-clause-err
returns-in_err-make_ready-clause-err g c = on_err_always c.from_residual.result c.in_err-make_ready.ensures.err

pub returns-in_err-pairs-clause-err : goal.returns-in_err-pairs-clause-err
returns-in_err-pairs-clause-err g c = on_err_always c.from_residual-in_err-pairs.result (inr c.in_ok-make_ready.ensures.ready.stands)
