use Rattle.std.proofs.Common.{◌≡◌, ◌<◌, [], ◌∷◌, ◌++◌, OnOk, IfErr, refl, sym, ◌∙◌, subst}
use Rattle.join_types.specs.Writes.{plain_write}
use Rattle.semantics.specs.Histories.{Entry}
use Rattle.write_history.specs.Entries.{EndsWith}
use Rattle.write_history.specs.Passes.{PassView, GoesOn, entry_by, own}
use Rattle.write_history.specs.Faults.{SaysWhy}
use Rattle.write_history.proofs.Appending.{Ended, ends, log_after, pass_of, taken_log}
use Rattle.write_history.proofs.history.History.append.Given.{Over}
use Rattle.write_history.proofs.history.History.append.Goals as goal

pub free_turn-requires-clause-log : goal.free_turn-requires-clause-log
free_turn-requires-clause-log g c =
    let m = c.pass.inside.place.me in
    let turn = c.take_turn.ensures.taken in
    let e : Entry = record { client = c.pass.inside.number; write = plain_write c.args.write } in
    log_after c.enter-answer.result turn.history turn.log e c.take_turn.new.place.me c.enter-answer.new.place.me (taken_log m c.take_turn.new.place.me turn c.pass.invariant.empty)
    c.enter-answer.ensures.entered c.enter-answer.ensures.declined

-- what has come of the write, where the turn is free again
ended : (g : Over) (c : goal.After-free_turn g) →
    Ended c.pass.inside.number c.pass.inside.place.table_id c.free_turn.new.place.table_id c.pass.inside.place.me c.free_turn.new.place.me (record { client = c.pass.inside.number; write = plain_write c.args.write }) c.enter-answer.result
ended g c =
    let number = c.pass.inside.number in
    let m = c.pass.inside.place.me in
    let e : Entry = record { client = number; write = plain_write c.args.write } in
    let below = subst (λ (p : PassView). p.number < p.writers) (sym c.pass.view_is) c.requires.writer in
    ends number c.pass.inside.place.table_id c.free_turn.new.place.table_id (c.free_turn.ensures.own ∙ c.enter-answer.ensures.own ∙ c.take_turn.ensures.own) m e c.pass.invariant
    c.enter-answer.result c.take_turn.new.place.me c.enter-answer.new.place.me c.free_turn.new.place.me c.take_turn.ensures.taken refl below
    c.enter-answer.ensures.entered c.enter-answer.ensures.declined c.free_turn.ensures.freed

pub invariant_of-pass : goal.invariant_of-pass
invariant_of-pass g c = (ended g c).resting

pub returns-clause-goes_on : goal.returns-clause-goes_on
returns-clause-goes_on g c = subst (λ (p : PassView). GoesOn p (pass_of c.free_turn.new.place.table_id c.pass.inside.number c.free_turn.new.place.me)) c.pass.view_is (ended g c).goes_on

pub returns-clause-position : goal.returns-clause-position
returns-clause-position g c = (ended g c).position

pub returns-clause-entry : goal.returns-clause-entry
returns-clause-entry g c = subst (λ (p : PassView). OnOk c.enter-answer.result (EndsWith (entry_by p (plain_write c.args.write)) c.free_turn.new.place.me.0.seen)) c.pass.view_is (ended g c).entry

pub returns-clause-once : goal.returns-clause-once
returns-clause-once g c =
    subst (λ (p : PassView). OnOk c.enter-answer.result (own (pass_of c.free_turn.new.place.table_id c.pass.inside.number c.free_turn.new.place.me) ≡ own p ++ entry_by p (plain_write c.args.write) ∷ [])) c.pass.view_is (ended g c).once

pub returns-clause-fault : goal.returns-clause-fault
returns-clause-fault g c =
    subst (λ (p : PassView). IfErr c.enter-answer.result (SaysWhy p (pass_of c.free_turn.new.place.table_id c.pass.inside.number c.free_turn.new.place.me) (plain_write c.args.write))) c.pass.view_is (ended g c).fault
