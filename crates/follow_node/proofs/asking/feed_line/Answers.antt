use Rattle.std.proofs.Common.{◌≡◌, ℕ, ◌++◌, ◌∷◌, [], ◌∙◌, decimal, sym, ap, ap₂, append_assoc}
use Rattle.json.specs.Print.{escape_byte}
use Rattle.follow_node.specs.Asking.{feed_text}
use Rattle.follow_node.proofs.asking.feed_line.Goals as goal

-- the text, part by part
feed_text-parts : (n : ℕ) → feed_text n ≡ ((91 ∷ 34 ∷ 102 ∷ 101 ∷ 101 ∷ 100 ∷ 34 ∷ 44 ∷ []) ++ decimal n) ++ 93 ∷ 10 ∷ []
unfolding feed_text escape_byte
feed_text-parts n = ap (λ t. 91 ∷ 34 ∷ 102 ∷ 101 ∷ 101 ∷ 100 ∷ 34 ∷ 44 ∷ t) (append_assoc (decimal n) (93 ∷ []) (10 ∷ []))

pub returns-clause-text : goal.returns-clause-text
returns-clause-text c =
    let digits : c.as_bytes.result.now ≡ decimal c.args.from = c.as_bytes.ensures.value ∙ c.format.ensures.text in
    c.append-3.ensures.bytes
    ∙ ap (λ t. t ++ 93 ∷ 10 ∷ []) (c.append-2.ensures.bytes ∙ ap₂ (λ front back. front ++ back) c.append.ensures.bytes digits)
    ∙ sym (feed_text-parts c.args.from)
