use Rattle.std.proofs.Common.{sym, ◌∙◌}
use Rattle.std.proofs.lemmas.Result.{IfOk-weaker}
use Rattle.serde_json.specs.View.{view}
use Rattle.event_script.proofs.AppendLemmas.{event_is_written}
use Rattle.event_script.proofs.event.read_append.Goals as goal

pub returns-clause-event : goal.returns-clause-event
returns-clause-event c =
    let same = event_is_written (view c.args.client.now) (view c.args.write.now) c.in-Some.client (sym c.number_of.ensures ∙ c.in-Some.is) (sym c.is_write.ensures ∙ c.if-not-is_write.false) in
    IfOk-weaker c.read_written.result _ _ (λ event is. same ∙ is) c.read_written.ensures.event
