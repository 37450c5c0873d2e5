use Rattle.std.proofs.Common.{◌∷◌, ◌++◌, [], ap, ◌∙◌, append_assoc}
use Rattle.std.proofs.lemmas.Result.{on_ok_weaker}
use Rattle.json.specs.Token.{begin_array}
use Rattle.request_codec.specs.Written.{head_tokens}
use Rattle.request_codec.proofs.written.write_head.Goals as goal

pub returns : goal.returns
returns c =
    let head = head_tokens c.args.position in
    on_ok_weaker c.write_numbered.result
    (λ written. record {
      before = written.before ∙ c.in_ok-begin_array.ensures.room.0;
      tokens = written.tokens ∙ ap (λ ts. ts ++ head) c.in_ok-begin_array.ensures.ok ∙ append_assoc c.args.writer.now.tokens (begin_array ∷ []) head;
    }) c.write_numbered.ensures
