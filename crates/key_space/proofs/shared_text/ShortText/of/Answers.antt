use Rattle.std.proofs.Common.{ℕ, List, ◌≡◌, ◌++◌, take, drop, length, replicate, true, arith, subst, sym, ap, ◌∙◌}
use Rattle.std.specs.Str.{is_utf8}
use Rattle.std.proofs.lemmas.Str.{is_utf8-from_IsUtf8}
use Rattle.std.proofs.lemmas.List.{take_all, take-append-le}
use Rattle.key_space.proofs.shared_text.ShortText.of.Goals as goal

-- what stands before the rest is taken whole
front : (xs ys : List ℕ) → take (length xs) (xs ++ ys) ≡ xs
front xs ys = take-append-le (length xs) xs ys (omega arith) ∙ take_all (length xs) xs (omega arith)

-- the bytes are those of the text
pub returns-clause-short : goal.returns-clause-short
returns-clause-short c =
    let text = c.args.text.now in
    let rest = drop (length text) (replicate 22 0) in
    let same = ap (λ (copied : List ℕ). take (length text) (copied ++ rest)) (c.copy_from_slice.ensures.after ∙ c.as_bytes.ensures.value) ∙ front text rest in
    (omega (arith, c.if-len-gt-SHORT.false), subst (λ (bytes : List ℕ). is_utf8 bytes ≡ true) (sym same) (is_utf8-from_IsUtf8 text c.utf8.text))
