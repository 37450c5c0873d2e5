use Rattle.std.proofs.Common.{IfErr, sym, subst}
use Rattle.serde_json.specs.View.{view}
use Rattle.request_codec.specs.Plain.{IsFaultOf}
use Rattle.request_codec.proofs.FormLemmas.{numbered_last}
use Rattle.request_codec.proofs.reading.read_word_and_last.Goals as goal

pub returns-in-None-clause-fault : goal.returns-in-None-clause-fault
returns-in-None-clause-fault c =
    subst (λ r. IfErr c.read_numbered.result (IsFaultOf r))
    (sym (numbered_last (view c.args.word.now) (view c.args.last.now) c.in_ok-word.word.now c.in_ok-word.ensures.text (sym c.in-None.ensures))) c.read_numbered.ensures.fault
