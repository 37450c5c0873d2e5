use Rattle.std.proofs.Common.{◌∷◌, ◌++◌, [], sym, ap, ◌∙◌, append-nil}
use Rattle.json.specs.Token.{begin_array}
use Rattle.request_codec.specs.Written.{head_tokens}
use Rattle.request_codec.proofs.written.PairsWriter.begin.Goals as goal

pub returns : goal.returns
returns c =
    let head = head_tokens c.args.position in record {
      before = c.in_ok-begin_array.ensures.room.0 ∙ c.in_ok-write_head.ensures.before ∙ c.new-writer.ensures.before ∙ c.in_ok-with_capacity.ensures.items;
      tokens = c.in_ok-begin_array.ensures.ok ∙ ap (λ ts. ts ++ begin_array ∷ []) (c.in_ok-write_head.ensures.tokens ∙ ap (λ ts. ts ++ begin_array ∷ head) c.new-writer.ensures.tokens)
          ∙ sym (append-nil (begin_array ∷ (head ++ begin_array ∷ [])));
    }
