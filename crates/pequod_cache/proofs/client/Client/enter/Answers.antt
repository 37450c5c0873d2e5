use Rattle.std.proofs.Common.{◌∷◌, [], sym, subst}
use Rattle.protocol.specs.Requests.{write}
use Rattle.protocol.specs.Told.{Told}
use Rattle.join_types.specs.Writes.{plain_write}
use Rattle.join_types.specs.Causes.{plain_cause}
use Rattle.request_codec.specs.Plain.{plain_reply}
use Rattle.request_codec.specs.declared.reply.Reply.{Reply}
use Rattle.write_history.specs.Passes.{PassView}
use Rattle.write_history.specs.Faults.{SaysWhy}
use Rattle.pequod_cache.proofs.ClientLemmas.{client_goes_on}
use Rattle.pequod_cache.proofs.ToldLemmas.{told_appended, told_refusal, told_no_write}
use Rattle.pequod_cache.proofs.client.Client.enter.Goals as goal
use Rattle.pequod_cache.proofs.client.Client.enter.Goals.{in-Ok, in-Err-Refused, in-Err-OutOfMemory}

pub invariant_of-self : goal.invariant_of-self
invariant_of-self g c =
    client_goes_on g.N.Naming.history c.self.inside.pass c.append.new.pass c.self.inside.joins c.self.invariant c.append.ensures.goes_on

pub returns-clause-told : goal.returns-clause-told
returns-clause-told g c =
    let old : PassView = c.self.inside.pass in
    let new : PassView = c.append.new.pass in
    let ToldAs : Reply → Type 0 = λ reply. Told old.view new.view old.number (write (plain_write c.args.change) ∷ []) (plain_reply reply ∷ []) in
    subst (λ (p : PassView). Told p.view new.view p.number (write (plain_write c.args.change) ∷ []) (plain_reply c.match-append.result ∷ [])) c.self.view_is
    (elim c.match-append.branch [
      | in-Ok w ↦ subst ToldAs (sym w.result-is) (told_appended old new (plain_write c.args.change) w.in-Ok.position c.append.ensures.goes_on w.in-Ok.ensures.position w.in-Ok.ensures.entry w.in-Ok.ensures.once)
      | in-Err-Refused w ↦
          let why = subst (SaysWhy old new (plain_write c.args.change)) w.in-Err-Refused.field-0-is w.in-Err-Refused.ensures.fault in
          subst ToldAs (sym w.result-is) (told_refusal old new (plain_write c.args.change) w.in-Err-Refused.position (plain_cause w.in-Err-Refused.cause) c.append.ensures.goes_on why.0 why.1 why.2)
      | in-Err-OutOfMemory w ↦
          let why = subst (SaysWhy old new (plain_write c.args.change)) w.in-Err-OutOfMemory.field-0-is w.in-Err-OutOfMemory.ensures.fault in
          subst ToldAs (sym w.result-is) (told_no_write old new (plain_write c.args.change) why)
    ])
