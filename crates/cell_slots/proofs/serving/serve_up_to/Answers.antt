use Rattle.std.proofs.Common.{◌+◌, length, ◌∙◌}
use Rattle.std.proofs.lemmas.Option.{none-some}
use Rattle.std.proofs.lemmas.Result.{IfOk-weaker, on_err_weaker, on_ok_weaker}
use Rattle.cell_slots.proofs.AdvancedLemmas.{filled_there}
use Rattle.cell_slots.proofs.CountingLemmas.{reach_filled}
use Rattle.cell_slots.proofs.serving.serve_up_to.Goals as goal

pub returns-in-None-clause-still : goal.returns-in-None-clause-still
returns-in-None-clause-still g c = λ ready. absurd (none-some c.args.p (c.in-None.ensures ∙ ready.stands))

pub returns-in-None-clause-unused : goal.returns-in-None-clause-unused
returns-in-None-clause-unused g c = λ ready. absurd (none-some c.args.p (c.in-None.ensures ∙ ready.stands))

pub returns-in-None-clause-few : goal.returns-in-None-clause-few
returns-in-None-clause-few g c = on_ok_weaker c.fill_and_read.result (λ few _. few) c.fill_and_read.ensures.few

pub returns-in-None-clause-filled : goal.returns-in-None-clause-filled
returns-in-None-clause-filled g c = λ none. c.fill_and_read.ensures.clear

pub returns-in-None-clause-err : goal.returns-in-None-clause-err
returns-in-None-clause-err g c =
    on_err_weaker c.fill_and_read.result (λ left. filled_there c.args.p c.args.state.now c.fill_and_read.new.state left) c.fill_and_read.ensures.err

pub returns-in-None-clause-least : goal.returns-in-None-clause-least
returns-in-None-clause-least g c =
    IfOk-weaker c.fill_and_read.result _ _ (λ pairs counts.
    reach_filled (g.R.Reader.list c.args.reader.now) c.args.p c.args.state.now (c.args.steps.now + 1 + length pairs.items) c.fill_and_read.new.steps counts) c.fill_and_read.ensures.least

pub returns-in-None-clause-at_once : goal.returns-in-None-clause-at_once
returns-in-None-clause-at_once g c = λ ready. absurd (none-some c.args.p (c.in-None.ensures ∙ ready.stands))

pub returns-in-None-clause-behind : goal.returns-in-None-clause-behind
returns-in-None-clause-behind g c = λ q stands less bare. absurd (none-some q (c.in-None.ensures ∙ stands))

pub returns-in-None-clause-pending : goal.returns-in-None-clause-pending
returns-in-None-clause-pending g c = λ stands meets. absurd (none-some c.args.p (c.in-None.ensures ∙ stands))
