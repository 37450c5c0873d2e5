use Rattle.std.proofs.Common.{◌+◌, length, inl, refl, subst, arith}
use Rattle.std.proofs.lemmas.Result.{err_from_is_err_and}
use Rattle.join_eval.specs.declared.reading.Changed.TheVariants.{Keys}
use Rattle.range_state.specs.Since.{AnswersSince, as_changed}
use Rattle.cell_slots.proofs.AdvancedLemmas.{caught_there, on_err_always}
use Rattle.cell_slots.proofs.CountingLemmas.{advance_counts, forward_counted}
use Rattle.cell_slots.proofs.TellingLemmas.{told_from}
use Rattle.cell_slots.proofs.telling.changes_since.Goals as goal

pub returns-in_err-catch_up-clause-wide : goal.returns-in_err-catch_up-clause-wide
returns-in_err-catch_up-clause-wide g c =
    let p = err_from_is_err_and c.from_residual.result c.from_residual.ensures.1 in
    rw (p.1, p.2) c.in_err-catch_up.ensures.wide

pub returns-in_err-catch_up-clause-known : goal.returns-in_err-catch_up-clause-known
returns-in_err-catch_up-clause-known g c = λ at stands less bare.
    let p = err_from_is_err_and c.from_residual.result c.from_residual.ensures.1 in
    let never = c.in_err-catch_up.ensures.known at stands less bare in
    rw (p.1, p.2) never

pub returns-in_err-catch_up-clause-gone : goal.returns-in_err-catch_up-clause-gone
returns-in_err-catch_up-clause-gone g c =
    let p = err_from_is_err_and c.from_residual.result c.from_residual.ensures.1 in
    rw (p.1, p.2) c.in_err-catch_up.ensures.gone

pub returns-in-Some-clause-told : goal.returns-in-Some-clause-told
returns-in-Some-clause-told g c =
    let list = g.R.Reader.list in
    let answers = subst (λ o. AnswersSince c.args.q c.args.range.now c.catch_up.new.state (as_changed o)) c.in-Some.is c.in_ok-keys.ensures.touched in
    let lists = rw c.in-Some.is at c.in_ok-keys.ensures.same in
    told_from c.catch_up.new.state.position c.args.state.now c.catch_up.new.state (list c.args.reader.now) (list c.catch_up.new.reader) c.args.q c.args.p c.args.range.now (Keys c.in-Some.keys) refl
    c.in_ok-catch_up.ensures.same c.requires.order c.requires.within c.in_ok-catch_up.ensures.moves.kept (c.in_ok-catch_up.ensures.moves.entered c.requires.entered) c.in_ok-catch_up.ensures.reached c.in_ok-catch_up.ensures.sound
    answers lists

pub returns-in_err-catch_up-clause-err : goal.returns-in_err-catch_up-clause-err
returns-in_err-catch_up-clause-err g c = on_err_always c.from_residual.result (inl c.in_err-catch_up.ensures.err)

pub returns-in_err-keys-clause-err : goal.returns-in_err-keys-clause-err
returns-in_err-keys-clause-err g c =
    on_err_always c.from_residual-in_err-keys.result (caught_there c.args.p c.args.state.now c.catch_up.new.state c.in_ok-catch_up.ensures.advanced)

-- ---- what is counted

pub returns-in-Some-clause-least : goal.returns-in-Some-clause-least
returns-in-Some-clause-least g c = λ at stands less.
    let h = g.R.Reader.list c.args.reader.now in
    let counted = rw c.in-Some.is at c.in_ok-keys.ensures.cost in
    forward_counted h c.args.p c.args.state.now c.args.steps.now c.catch_up.new.steps (c.args.steps.now + 1 + length c.in-Some.keys.items) c.touched_since.new.steps (λ steps low. omega (arith, low, counted))
    (advance_counts h c.args.p c.args.state.now c.catch_up.new.state c.args.steps.now c.catch_up.new.steps (c.in_ok-catch_up.ensures.least at stands less))

pub returns-in-None-clause-least : goal.returns-in-None-clause-least
returns-in-None-clause-least g c = λ at stands less.
    let h = g.R.Reader.list c.args.reader.now in
    let counted = rw c.in-None.is at c.in_ok-keys.ensures.cost in
    forward_counted h c.args.p c.args.state.now c.args.steps.now c.catch_up.new.steps (c.args.steps.now + 1 + 0) c.touched_since.new.steps (λ steps low. omega (arith, low, counted))
    (advance_counts h c.args.p c.args.state.now c.catch_up.new.state c.args.steps.now c.catch_up.new.steps (c.in_ok-catch_up.ensures.least at stands less))
