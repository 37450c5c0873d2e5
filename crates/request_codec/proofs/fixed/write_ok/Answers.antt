use Rattle.std.proofs.Common.{◌≡◌, ℕ, ◌≤◌, ◌++◌, ◌∷◌, [], ◌∙◌, length, decimal, sym, ap, ap₂, arith, append_assoc}
use Rattle.std.proofs.lemmas.Fmt.{length-decimal-le}
use Rattle.protocol.specs.Replies.{reply_text, done}
use Rattle.json.specs.Print.{escape_byte}
use Rattle.request_codec.proofs.fixed.write_ok.Goals as goal

-- the text of `Done`, part by part
reply_text-done : (n : ℕ) → reply_text (done n) ≡ ((91 ∷ 34 ∷ 111 ∷ 107 ∷ 34 ∷ 44 ∷ []) ++ decimal n) ++ 93 ∷ 10 ∷ []
unfolding reply_text escape_byte
reply_text-done n = ap (λ t. 91 ∷ 34 ∷ 111 ∷ 107 ∷ 34 ∷ 44 ∷ t) (append_assoc (decimal n) (93 ∷ []) (10 ∷ []))

pub returns-clause-text : goal.returns-clause-text
returns-clause-text c =
    let digits : c.as_bytes.result.now ≡ decimal c.args.position = c.as_bytes.ensures.value ∙ c.format.ensures.text in
    c.append-3.ensures.bytes
    ∙ ap (λ t. t ++ 93 ∷ 10 ∷ []) (c.append-2.ensures.bytes ∙ ap₂ (λ front back. front ++ back) c.append.ensures.bytes digits)
    ∙ sym (reply_text-done c.args.position)

pub returns-clause-short : goal.returns-clause-short
returns-clause-short c =
    let digits : length c.as_bytes.result.now ≤ 15 = rw (c.as_bytes.ensures.value, c.format.ensures.text) (length-decimal-le 15 c.args.position (omega arith) (omega arith) (omega arith)) in
    omega arith
