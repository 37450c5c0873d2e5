-- The line of an answer to a scan, and the pairs that are read back in it.
use Rattle.std.proofs.Common.{◌≡◌, ℕ, ◌-◌, List, [], ◌∷◌, ◌++◌, codes, drop, length, map, take, refl, sym, ap, ◌∙◌, append_assoc, append-nil, arith}
use Rattle.std.proofs.lemmas.List.{length-append, take-append-le, take_all}
use Rattle.std.proofs.lemmas.List.Concat.{flat_map-append}
use Rattle.json.specs.Token.{Token, begin_array, end_array}
use Rattle.json.specs.Lex.{tokens}
use Rattle.json.specs.Print.{print}
use Rattle.json.specs.Written.{Written}
use Rattle.serde_json.specs.Data.{string}
use Rattle.serde_json.specs.Written.{compact_text}
use Rattle.serde_json.proofs.Texts.{print-outline}
use Rattle.semantics.specs.Texts.{Text, Table}
use Rattle.semantics.specs.Answers.{pairs}
use Rattle.protocol.specs.Rows.{list_of, whole_number}
use Rattle.protocol.specs.Replies.{answer_items, answered, pair_item, reply_text}
use Rattle.request_codec.specs.AppendsLaws.{pairs-append}
use Rattle.request_codec.specs.Tokens.{Appends, item_tokens, tokens_of_items}
use Rattle.request_codec.specs.Written.{Continues, HasPairs, head_tokens, open_tokens, pairs_of, rows_in}
use Rattle.request_codec.proofs.TokenLemmas.{tokens_of_items-list_of}

-- ---- what is written

-- pairs behind pairs
pub pairs_more : (position : ℕ) (a b : Written) (rows more : Table) → HasPairs position rows a → Appends a b (map pair_item more) → HasPairs position (rows ++ more) b
pairs_more position a b rows more had next =
    let head = begin_array ∷ (head_tokens position ++ begin_array ∷ []) in
    let old = tokens_of_items (map pair_item rows) in
    let new = tokens_of_items (map pair_item more) in
    record {
      before = next.before ∙ had.before;
      tokens = next.tokens ∙ ap (λ ts. ts ++ new) had.tokens ∙ append_assoc head old new
          ∙ ap (λ ts. head ++ ts) (sym (pairs-append rows more));
    }

-- the tokens, with two brackets that close, are those of the answer
whole : (position : ℕ) (rows : Table) → open_tokens position rows ++ (end_array ∷ end_array ∷ []) ≡ tokens_of_items (list_of (answer_items (pairs position rows)) ∷ [])
whole position rows =
    let b = begin_array in
    let e = end_array in
    let head = head_tokens position in
    let inside = tokens_of_items (map pair_item rows) in
    ap (λ ts. b ∷ ts)
    (append_assoc (head ++ b ∷ []) inside (e ∷ e ∷ []) ∙ append_assoc head (b ∷ []) (inside ++ (e ∷ e ∷ []))
    ∙ ap (λ ts. head ++ b ∷ ts) (sym (append_assoc inside (e ∷ []) (e ∷ []))) ∙ sym (append_assoc head (b ∷ (inside ++ e ∷ [])) (e ∷ []))
    ∙ ap (λ ts. (head ++ ts) ++ e ∷ []) (sym (tokens_of_items-list_of (map pair_item rows)))
    ∙ ap (λ ts. ts ++ e ∷ []) (sym (flat_map-append item_tokens (string (codes "pairs") ∷ whole_number position ∷ []) (list_of (map pair_item rows) ∷ []))))
    ∙ sym (tokens_of_items-list_of (answer_items (pairs position rows)))

-- printed they are the answer's text
printed : (position : ℕ) (rows : Table) (ts : List Token) → ts ≡ open_tokens position rows ++ (end_array ∷ end_array ∷ []) → print ts ≡ compact_text (list_of (answer_items (pairs position rows)))
printed position rows ts is =
    let item = list_of (answer_items (pairs position rows)) in
    ap print (is ∙ whole position rows ∙ append-nil (item_tokens item)) ∙ print-outline item

-- the line of the answer is this text, and the byte 10
line_text : (position : ℕ) (rows : Table) (ts : List Token) (before line : Text) → ts ≡ open_tokens position rows ++ (end_array ∷ end_array ∷ []) → before ≡ [] → line ≡ (before ++ print ts) ++ 10 ∷ [] →
    line ≡ reply_text (answered (pairs position rows))
unfolding reply_text
line_text position rows ts before line is none made = made ∙ ap (λ t. (t ++ print ts) ++ 10 ∷ []) none ∙ ap (λ t. t ++ 10 ∷ []) (printed position rows ts is)

-- ---- what is read back

rows_back : (rows : Table) → rows_in (tokens_of_items (map pair_item rows) ++ (end_array ∷ end_array ∷ [])) ≡ rows
rows_back [] = refl
rows_back (row ∷ rows) = ap (λ t. row ∷ t) (rows_back rows)

but_last : (text : Text) (b : ℕ) → take (length (text ++ b ∷ []) - 1) (text ++ b ∷ []) ≡ text
but_last text b =
    let size = length-append text (b ∷ []) in
    let short : length (text ++ b ∷ []) - 1 ≡ length text = omega (arith, size) in
    ap (λ n. take n (text ++ b ∷ [])) short ∙ take-append-le (length text) text (b ∷ []) (omega arith) ∙ take_all (length text) text (omega arith)

-- in the line of the answer these pairs are read back
read_back : (position : ℕ) (rows : Table) (ts : List Token) (before line : Text) → ts ≡ open_tokens position rows ++ (end_array ∷ end_array ∷ []) → tokens (print ts) ≡ ts → before ≡ [] → line ≡ (before ++ print ts) ++ 10 ∷ [] →
    pairs_of line ≡ rows
unfolding pairs_of
read_back position rows ts before line is back none made =
    ap (λ t. drop 1 (rows_in (tokens (take (length t - 1) t)))) (made ∙ ap (λ t. (t ++ print ts) ++ 10 ∷ []) none)
    ∙ ap (λ t. drop 1 (rows_in (tokens t))) (but_last (print ts) 10)
    ∙ ap (λ l. drop 1 (rows_in l)) (back ∙ is)
    ∙ ap (λ l. drop 1 (rows_in l)) (append_assoc (begin_array ∷ (head_tokens position ++ begin_array ∷ [])) (tokens_of_items (map pair_item rows)) (end_array ∷ end_array ∷ []))
    ∙ rows_back rows

-- ---- where it is ended

-- the line is that of the answer, and in it these pairs are read back
pub ended : (position : ℕ) (rows : Table) (begun closed : Written) (line : Text) → HasPairs position rows begun → Continues begun closed (end_array ∷ end_array ∷ []) → tokens (print closed.tokens) ≡ closed.tokens →
    line ≡ (closed.before ++ print closed.tokens) ++ 10 ∷ [] → (line ≡ reply_text (answered (pairs position rows))) × (pairs_of line ≡ rows)
ended position rows begun closed line had ends back made =
    let all = ends.tokens ∙ ap (λ ts. ts ++ (end_array ∷ end_array ∷ [])) had.tokens in
    let none = ends.before ∙ had.before in
    (line_text position rows closed.tokens closed.before line all none made, read_back position rows closed.tokens closed.before line all back none made)
