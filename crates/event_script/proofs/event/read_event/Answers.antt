use Rattle.std.proofs.Common.{refl}
use Rattle.std.proofs.lemmas.Result.{err_from_is_err_and}
use Rattle.protocol.specs.Requests.{json_of}
use Rattle.request_codec.proofs.JsonLemmas.{fault_of_json}
use Rattle.core_events.specs.Scripts.{event_of, event_of_json}
use Rattle.event_script.proofs.event.read_event.Goals as goal

pub returns-in_err-value-clause-fault : goal.returns-in_err-value-clause-fault
unfolding event_of
returns-in_err-value-clause-fault c =
    let p = err_from_is_err_and c.from_residual.result c.from_residual.ensures.1 in
    rw (p.1, p.2) (fault_of_json event_of_json (json_of c.args.line.now) _ refl c.in_err-value.ensures.fault)

pub returns-clause-event : goal.returns-clause-event
unfolding event_of
returns-clause-event c = rw c.in_ok-value.ensures.value c.read_json_event.ensures.event

pub returns-clause-fault : goal.returns-clause-fault
unfolding event_of
returns-clause-fault c = rw c.in_ok-value.ensures.value c.read_json_event.ensures.fault
