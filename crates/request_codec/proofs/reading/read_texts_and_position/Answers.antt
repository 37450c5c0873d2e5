use Rattle.std.proofs.Common.{◌≡◌, IfOk, IfErr, Ok, sym, subst}
use Rattle.serde_json.specs.View.{view}
use Rattle.request_codec.specs.Plain.{plain_request, IsFaultOf}
use Rattle.request_codec.proofs.FormLemmas.{no_fourth, positioned}
use Rattle.request_codec.proofs.reading.read_texts_and_position.Goals as goal

pub returns-in_default-clause-fault : goal.returns-in_default-clause-fault
returns-in_default-clause-fault c =
    no_fourth (view c.args.word.now) (view c.args.low.now) (view c.args.high.now) (view c.args.last.now) c.in_ok-word.word.now c.in_ok-low.low.now c.in_ok-high.high.now
    c.in_ok-word.ensures.text c.in_ok-low.ensures.text c.in_ok-high.ensures.text (sym c.in_default.ensures)

pub returns-clause-request : goal.returns-clause-request
returns-clause-request c =
    subst (λ r. IfOk c.read_bounds.result (λ request. r ≡ Ok (plain_request request)))
    (sym (positioned (view c.args.word.now) (view c.args.low.now) (view c.args.high.now) (view c.args.last.now) c.in_ok-word.word.now c.in_ok-low.low.now c.in_ok-high.high.now c.in-Some.position
    c.in_ok-word.ensures.text c.in_ok-low.ensures.text c.in_ok-high.ensures.text (sym c.in-Some.ensures))) c.read_bounds.ensures.request

pub returns-clause-fault : goal.returns-clause-fault
returns-clause-fault c =
    subst (λ r. IfErr c.read_bounds.result (IsFaultOf r))
    (sym (positioned (view c.args.word.now) (view c.args.low.now) (view c.args.high.now) (view c.args.last.now) c.in_ok-word.word.now c.in_ok-low.low.now c.in_ok-high.high.now c.in-Some.position
    c.in_ok-word.ensures.text c.in_ok-low.ensures.text c.in_ok-high.ensures.text (sym c.in-Some.ensures))) c.read_bounds.ensures.fault
