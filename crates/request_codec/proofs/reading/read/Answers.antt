use Rattle.std.proofs.Common.{refl}
use Rattle.std.proofs.lemmas.Result.{err_from_is_err_and}
use Rattle.protocol.specs.Requests.{json_of, request_of, request_of_json}
use Rattle.request_codec.proofs.JsonLemmas.{fault_of_json}
use Rattle.request_codec.proofs.reading.read.Goals as goal

pub returns-in_err-value-clause-fault : goal.returns-in_err-value-clause-fault
unfolding request_of
returns-in_err-value-clause-fault c =
    let p = err_from_is_err_and c.from_residual.result c.from_residual.ensures.1 in
    rw (p.1, p.2) (fault_of_json request_of_json (json_of c.args.line.now) _ refl c.in_err-value.ensures.fault)

pub returns-clause-request : goal.returns-clause-request
unfolding request_of
returns-clause-request c = rw c.in_ok-value.ensures.value c.read_value.ensures.request

pub returns-clause-fault : goal.returns-clause-fault
unfolding request_of
returns-clause-fault c = rw c.in_ok-value.ensures.value c.read_value.ensures.fault
