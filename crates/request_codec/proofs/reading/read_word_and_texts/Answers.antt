use Rattle.std.proofs.lemmas.Result.{err_from_is_err_and}
use Rattle.serde_json.specs.View.{view}
use Rattle.request_codec.proofs.FormLemmas.{no_third}
use Rattle.request_codec.proofs.reading.read_word_and_texts.Goals as goal

pub returns-in_err-second-clause-fault : goal.returns-in_err-second-clause-fault
returns-in_err-second-clause-fault c =
    let p = err_from_is_err_and c.from_residual-in_err-second.result c.from_residual-in_err-second.ensures.1 in
    rw (p.1, p.2, c.in_err-second.ensures.fault.1)
    (no_third (view c.args.word.now) (view c.args.first.now) (view c.args.second.now) c.in_ok-word.word.now c.in_ok-first.first.now
    c.in_ok-word.ensures.text c.in_ok-first.ensures.text c.in_err-second.ensures.fault.0)
