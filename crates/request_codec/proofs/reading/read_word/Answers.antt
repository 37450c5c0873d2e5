use Rattle.std.proofs.lemmas.Result.{err_from_is_err_and}
use Rattle.serde_json.specs.View.{view}
use Rattle.request_codec.proofs.FormLemmas.{no_word}
use Rattle.request_codec.proofs.reading.read_word.Goals as goal

pub returns-in_err-word-clause-fault : goal.returns-in_err-word-clause-fault
returns-in_err-word-clause-fault c =
    let p = err_from_is_err_and c.from_residual.result c.from_residual.ensures.1 in
    rw (p.1, p.2, c.in_err-word.ensures.fault.1) (no_word (view c.args.word.now) c.in_err-word.ensures.fault.0)
