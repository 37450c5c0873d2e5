use Rattle.std.proofs.Common.{◌≡◌, ℕ, ◌+◌, ◌≤◌, length, take, Option, IsSome, Some, refl, sym, ap, subst, inl, inr, arith}
use Rattle.std.proofs.lemmas.Result.{IfOk-weaker}
use Rattle.semantics.specs.States.{below}
use Rattle.kept_ranges.specs.Kept.{Kept}
use Rattle.range_state.proofs.HeldLemmas.{afresh_few}
use Rattle.cell_slots.proofs.AdvancedLemmas.{on_err_always, on_ok_always}
use Rattle.cell_slots.proofs.CountingLemmas.{fill_counted}
use Rattle.cell_slots.proofs.UpToLemmas.{afresh_ready, afresh_serves, fills_none, fills_some, left_serves}
use Rattle.cell_slots.proofs.serving.fill_and_read.Goals as goal

-- ---- where it is kept

pub read-requires-clause-stands : goal.read-requires-clause-stands
read-requires-clause-stands g c =
    let table = below (take c.args.p (g.R.Reader.list c.args.reader.now)) c.args.state.now.rank in
    let kept = fills_none c.args.most c.args.p table c.args.state.now c.fill_up_to.new.self c.in_ok-left.left c.in-None.is c.in_ok-left.ensures.filled in
    subst (λ (o : Option ℕ). IsSome o) (sym kept.at) refl

pub read-requires-clause-clear : goal.read-requires-clause-clear
read-requires-clause-clear g c =
    let table = below (take c.args.p (g.R.Reader.list c.args.reader.now)) c.args.state.now.rank in
    let kept = fills_none c.args.most c.args.p table c.args.state.now c.fill_up_to.new.self c.in_ok-left.left c.in-None.is c.in_ok-left.ensures.filled in
    (afresh_ready c.args.most c.args.p table c.args.range.now c.args.state.now c.fill_up_to.new.self kept).clear

pub returns-in-None-clause-given : goal.returns-in-None-clause-given
returns-in-None-clause-given g c =
    let list = g.R.Reader.list in
    let h = list c.args.reader.now in
    let more = list c.fill_up_to.new.reader in
    let table = below (take c.args.p h) c.args.state.now.rank in
    let filled = c.in_ok-left.ensures in
    let kept = fills_none c.args.most c.args.p table c.args.state.now c.fill_up_to.new.self c.in_ok-left.left c.in-None.is filled.filled in
    IfOk-weaker c.read.result _ _ (λ pairs is.
    afresh_serves c.args.most c.args.p h more table c.args.range.now c.args.state.now c.fill_up_to.new.self pairs.items kept filled.same c.requires.within filled.moves.kept
    (is more c.args.p (filled.moves.entered c.requires.entered) kept.at filled.sound)) c.read.ensures.output

pub returns-in-None-clause-cost : goal.returns-in-None-clause-cost
returns-in-None-clause-cost g c =
    IfOk-weaker c.read.result _ _ (λ pairs is. omega (arith, is, c.in_ok-left.ensures.counted)) c.read.ensures.cost

pub returns-in-None-clause-least : goal.returns-in-None-clause-least
returns-in-None-clause-least g c =
    IfOk-weaker c.read.result _ _ (λ pairs is.
    fill_counted (g.R.Reader.list c.args.reader.now) c.args.p c.args.state.now c.args.steps.now c.fill_up_to.new.steps (c.args.steps.now + 1 + length pairs.items) c.read.new.steps
    (λ steps low. omega (arith, low, is)) c.in_ok-left.ensures.least) c.read.ensures.cost

pub returns-in-None-clause-few : goal.returns-in-None-clause-few
returns-in-None-clause-few g c =
    let table = below (take c.args.p (g.R.Reader.list c.args.reader.now)) c.args.state.now.rank in
    let kept = fills_none c.args.most c.args.p table c.args.state.now c.fill_up_to.new.self c.in_ok-left.left c.in-None.is c.in_ok-left.ensures.filled in
    on_ok_always c.read.result (afresh_few (Some c.args.most) c.args.p table c.args.state.now c.fill_up_to.new.self kept.afresh kept.few)

pub returns-in-None-clause-clear : goal.returns-in-None-clause-clear
returns-in-None-clause-clear g c =
    let table = below (take c.args.p (g.R.Reader.list c.args.reader.now)) c.args.state.now.rank in
    let kept = fills_none c.args.most c.args.p table c.args.state.now c.fill_up_to.new.self c.in_ok-left.left c.in-None.is c.in_ok-left.ensures.filled in
    on_ok_always c.read.result kept.clear

pub returns-in-None-clause-err : goal.returns-in-None-clause-err
returns-in-None-clause-err g c =
    let table = below (take c.args.p (g.R.Reader.list c.args.reader.now)) c.args.state.now.rank in
    let kept = fills_none c.args.most c.args.p table c.args.state.now c.fill_up_to.new.self c.in_ok-left.left c.in-None.is c.in_ok-left.ensures.filled in
    on_err_always c.read.result (inl kept.at)

-- ---- where it is not

pub returns-in-Some-clause-given : goal.returns-in-Some-clause-given
returns-in-Some-clause-given g c =
    let h = g.R.Reader.list c.args.reader.now in
    let left = fills_some c.args.most c.args.p (below (take c.args.p h) c.args.state.now.rank) c.args.state.now c.fill_up_to.new.self c.in_ok-left.left c.in-Some.rows c.in-Some.is c.in_ok-left.ensures.filled in
    IfOk-weaker c.read_rows.result _ _ (λ pairs is.
    left_serves c.args.most c.args.p h c.args.range.now c.args.state.now c.fill_up_to.new.self c.in-Some.rows pairs.items left c.in_ok-left.ensures.same is) c.read_rows.ensures.rows

pub returns-in-Some-clause-cost : goal.returns-in-Some-clause-cost
returns-in-Some-clause-cost g c =
    IfOk-weaker c.read_rows.result _ _ (λ pairs is. omega (arith, is, c.in_ok-left.ensures.counted)) c.read_rows.ensures.cost

pub returns-in-Some-clause-least : goal.returns-in-Some-clause-least
returns-in-Some-clause-least g c =
    IfOk-weaker c.read_rows.result _ _ (λ pairs is.
    fill_counted (g.R.Reader.list c.args.reader.now) c.args.p c.args.state.now c.args.steps.now c.fill_up_to.new.steps (c.args.steps.now + 1 + length pairs.items) c.read_rows.new.steps
    (λ steps low. omega (arith, low, is)) c.in_ok-left.ensures.least) c.read_rows.ensures.cost

pub returns-in-Some-clause-few : goal.returns-in-Some-clause-few
returns-in-Some-clause-few g c =
    let table = below (take c.args.p (g.R.Reader.list c.args.reader.now)) c.args.state.now.rank in
    let left = fills_some c.args.most c.args.p table c.args.state.now c.fill_up_to.new.self c.in_ok-left.left c.in-Some.rows c.in-Some.is c.in_ok-left.ensures.filled in
    let none : length c.fill_up_to.new.self.kept.needs ≡ 0 = ap (λ (k : Kept). length k.needs) left.empty in
    let few : length c.fill_up_to.new.self.kept.needs ≤ c.args.most = omega (arith, none) in
    on_ok_always c.read_rows.result few

pub returns-in-Some-clause-clear : goal.returns-in-Some-clause-clear
returns-in-Some-clause-clear g c =
    let table = below (take c.args.p (g.R.Reader.list c.args.reader.now)) c.args.state.now.rank in
    let left = fills_some c.args.most c.args.p table c.args.state.now c.fill_up_to.new.self c.in_ok-left.left c.in-Some.rows c.in-Some.is c.in_ok-left.ensures.filled in
    on_ok_always c.read_rows.result (ap (λ (k : Kept). k.pending) left.empty)

pub returns-in-Some-clause-err : goal.returns-in-Some-clause-err
returns-in-Some-clause-err g c =
    let table = below (take c.args.p (g.R.Reader.list c.args.reader.now)) c.args.state.now.rank in
    let left = fills_some c.args.most c.args.p table c.args.state.now c.fill_up_to.new.self c.in_ok-left.left c.in-Some.rows c.in-Some.is c.in_ok-left.ensures.filled in
    on_err_always c.read_rows.result (inr left.nothing)

-- ---- where no memory is found

pub returns-in_err-left-clause-err : goal.returns-in_err-left-clause-err
returns-in_err-left-clause-err g c = on_err_always c.from_residual.result (inr c.in_err-left.ensures.err)
