use Rattle.std.proofs.Common.{◌≡◌, [], ◌∷◌, ◌++◌, Some, None, option_map, sym, ap, subst, ◌∙◌}
use Rattle.semantics.specs.Histories.{History}
use Rattle.semantics.specs.Verdicts.{verdict}
use Rattle.protocol.specs.Replies.{refused}
use Rattle.protocol.specs.Requests.{write}
use Rattle.protocol.specs.Told.{Told}
use Rattle.join_types.specs.Causes.{plain_cause}
use Rattle.join_types.specs.Writes.{plain_write}
use Rattle.plain_history.specs.Histories.{IsKept}
use Rattle.plain_history.proofs.KeptLemmas.{no_cause, kept_next, told_refused_at, told_after}
use Rattle.plain_history.proofs.history.PlainHistory.write.Goals as goal

pub returns-in-Some-clause-told : goal.returns-in-Some-clause-told
returns-in-Some-clause-told c =
    let kept = c.self.inside.entries.items in
    let found : verdict (plain_write c.args.change) kept ≡ Some (plain_cause c.in-Some.cause) =
    sym (ap (option_map plain_cause) (sym c.in-Some.is) ∙ c.in_ok-cause.ensures.verdict kept c.self.invariant.stands) in
    subst (λ (h : History). Told h h 0 (write (plain_write c.args.change) ∷ []) (refused c.length-position.result (plain_cause c.in-Some.cause) ∷ [])) c.self.view_is
    (told_refused_at kept (plain_write c.args.change) (plain_cause c.in-Some.cause) c.length-position.result (c.length-position.ensures.length ∙ c.self.invariant.stands.same_length) found)

pub invariant_of-self-2 : goal.invariant_of-self-2
invariant_of-self-2 c =
    let items : c.push.new.self.items ≡ c.self.inside.entries.items ++ (record { client = 0; write = plain_write c.args.change } ∷ []) =
    c.in-Ok.ensures.items ∙ ap (λ es. es ++ (record { client = 0; write = plain_write c.args.change } ∷ [])) c.in_ok-reserve.ensures.items in
    subst (IsKept c.enter.new.self) (sym items)
    (kept_next c.self.inside.standing c.enter.new.self c.self.inside.entries.items (plain_write c.args.change) c.self.invariant c.in_ok-enter.ensures.history)

pub returns-clause-told : goal.returns-clause-told
returns-clause-told c =
    let free : verdict (plain_write c.args.change) c.self.inside.entries.items ≡ None =
    no_cause _ plain_cause _ c.in_default.not-Some (c.in_ok-cause.ensures.verdict c.self.inside.entries.items c.self.invariant.stands) in
    let items : c.push.new.self.items ≡ c.self.inside.entries.items ++ (record { client = 0; write = plain_write c.args.change } ∷ []) =
    c.in-Ok.ensures.items ∙ ap (λ es. es ++ (record { client = 0; write = plain_write c.args.change } ∷ [])) c.in_ok-reserve.ensures.items in
    told_after c.self.inside.entries.items c.args.self.now c.push.new.self.items (plain_write c.args.change) c.length-position.result
    c.self.view_is items (c.length-position.ensures.length ∙ c.self.invariant.stands.same_length) free
