use Rattle.std.proofs.Common.{◌≡◌, ◌≤◌, length, IfOk, OnErr, ◌∙◌, sym, ap, subst}
use Rattle.std.proofs.lemmas.Result.{IfOk-weaker}
use Rattle.semantics.specs.Histories.{History}
use Rattle.write_history.specs.Stored.{Stored}
use Rattle.write_history.specs.Passes.{PassView, GoesOn, own}
use Rattle.write_history.specs.declared.known.Mark.TheVariants.{Pinned}
use Rattle.write_history.specs.declared.looked.Looked.{Looked}
use Rattle.write_history.specs.Marks.{before}
use Rattle.write_history.specs.Steps.{Sat, HasLog, held_by}
use Rattle.write_history.specs.Looks.{TellsJoins}
use Rattle.write_history.proofs.Appending.{taken_log, pass_of}
use Rattle.write_history.proofs.Telling.{tells_higher}
use Rattle.write_history.proofs.Pinning.{LooksOn, looks_on, log_either}
use Rattle.write_history.proofs.history.History.look_joins.Given.{Over}
use Rattle.write_history.proofs.history.History.look_joins.Goals as goal

pub free_turn-requires-clause-log : goal.free_turn-requires-clause-log
free_turn-requires-clause-log g c =
    let turn = c.take_turn.ensures.taken in
    log_either (λ looked. looked.length) c.look_and_pin-looked.result turn.history turn.log c.take_turn.new.place.me c.look_and_pin-looked.new.place.me c.look_and_pin-looked.ensures.pinned c.look_and_pin-looked.ensures.declined
    (taken_log c.pass.inside.place.me c.take_turn.new.place.me turn c.pass.invariant.empty)

-- the turn is free again, and the pass pinned
looked_on : (g : Over) (c : goal.After-free_turn g) →
    LooksOn (λ (x : Looked). x.length) c.pass.inside.number c.pass.inside.place.table_id c.free_turn.new.place.table_id c.pass.inside.place.me c.free_turn.new.place.me c.take_turn.ensures.taken.history c.look_and_pin-looked.result
looked_on g c =
    let looked = c.look_and_pin-looked.ensures in
    looks_on c.pass.inside.number c.pass.inside.place.table_id c.free_turn.new.place.table_id (c.free_turn.ensures.own ∙ looked.own ∙ c.take_turn.ensures.own) c.pass.inside.place.me c.take_turn.new.place.me c.look_and_pin-looked.new.place.me
    c.free_turn.new.place.me c.pass.invariant c.take_turn.ensures.taken (ap (λ (p : PassView). p.mark) c.pass.view_is ∙ c.requires.free) looked.above c.free_turn.ensures.freed (λ (x : Looked). x.length) c.look_and_pin-looked.result looked.count looked.pinned
    looked.declined

pub invariant_of-pass : goal.invariant_of-pass
invariant_of-pass g c = (looked_on g c).resting

pub returns-clause-pinned : goal.returns-clause-pinned
returns-clause-pinned g c =
    subst (λ (p : PassView). IfOk c.look_and_pin-looked.result (λ looked. GoesOn (record p { mark = Pinned looked.length }) (pass_of c.free_turn.new.place.table_id c.pass.inside.number c.free_turn.new.place.me))) c.pass.view_is (looked_on g c).pinned

pub returns-clause-length : goal.returns-clause-length
returns-clause-length g c = (looked_on g c).long

pub returns-clause-told : goal.returns-clause-told
returns-clause-told g c =
    let known = c.args.known in
    let m = c.pass.inside.place.me in
    let now = c.take_turn.new.place.me in
    let turn = c.take_turn.ensures.taken in
    let low : now.0.lacks ≤ before (length turn.history) = subst (λ (h : History). now.0.lacks ≤ before (length h)) (ap (λ (x : Sat). held_by x.0) turn.is) c.look_and_pin-looked.ensures.above in
    IfOk-weaker c.look_and_pin-looked.result
    (λ looked. (h : History) (log : Stored) → HasLog h log now → TellsJoins now.0.lacks h known looked.joins)
    (λ looked. TellsJoins (before (length c.free_turn.new.place.me.0.seen)) c.free_turn.new.place.me.0.seen known looked.joins)
    (λ looked each.
    subst (λ (h : History). TellsJoins (before (length h)) h known looked.joins) (sym (looked_on g c).seen)
    (tells_higher now.0.lacks (before (length turn.history)) turn.history known looked.joins low (each turn.history turn.log (taken_log m now turn c.pass.invariant.empty))))
    c.look_and_pin-looked.ensures.told

pub returns-clause-goes_on : goal.returns-clause-goes_on
returns-clause-goes_on g c =
    subst (λ (p : PassView). OnErr c.look_and_pin-looked.result (GoesOn p (pass_of c.free_turn.new.place.table_id c.pass.inside.number c.free_turn.new.place.me))) c.pass.view_is (looked_on g c).goes_on

pub returns-clause-own : goal.returns-clause-own
returns-clause-own g c = (looked_on g c).own ∙ ap own c.pass.view_is
