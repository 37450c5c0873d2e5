-- The text of the tokens that a reply is written by.
use Rattle.std.proofs.Common.{◌≡◌, List, [], ◌∷◌, ◌++◌, refl, ap, ap₂, ◌∙◌, sym, append_assoc, append-nil}
use Rattle.std.specs.Prelude.{Result, OnOk}
use Rattle.std.proofs.lemmas.Result.{on_ok_weaker}
use Rattle.json.specs.Token.{Token, begin_array, end_array}
use Rattle.json.specs.Tree.{items_tokens}
use Rattle.json.specs.Print.{print}
use Rattle.json.specs.Written.{Written, Writes}
use Rattle.serde_json.specs.Data.{Data}
use Rattle.serde_json.specs.View.{items_of}
use Rattle.serde_json.specs.Written.{items_outline, compact_text}
use Rattle.serde_json.proofs.Texts.{print-outline}
use Rattle.protocol.specs.Rows.{list_of}
use Rattle.request_codec.specs.Tokens.{item_tokens, tokens_of_items, Appends}

-- the tokens of the items, and the bracket that closes their array
items_tokens-items_of : (items : List Data) → items_tokens (items_outline (items_of items)) ≡ tokens_of_items items ++ end_array ∷ []
items_tokens-items_of [] = refl
items_tokens-items_of (item ∷ items) = ap (λ rest. item_tokens item ++ rest) (items_tokens-items_of items) ∙ sym (append_assoc (item_tokens item) (tokens_of_items items) (end_array ∷ []))

-- the tokens of an array are those of its items between two brackets
pub tokens_of_items-list_of : (items : List Data) → tokens_of_items (list_of items ∷ []) ≡ begin_array ∷ (tokens_of_items items ++ end_array ∷ [])
tokens_of_items-list_of items = append-nil (item_tokens (list_of items)) ∙ ap (λ rest. begin_array ∷ rest) (items_tokens-items_of items)

-- the tokens of an opening bracket, of items, and of a closing bracket, one behind another
tokens-list_of : (old begun written closed : List Token) (items : List Data)
    → begun ≡ old ++ begin_array ∷ [] → written ≡ begun ++ tokens_of_items items → closed ≡ written ++ end_array ∷ [] → closed ≡ old ++ tokens_of_items (list_of items ∷ [])
tokens-list_of old begun written closed items opened middle ended =
    let inside = tokens_of_items items in
    ended ∙ ap (λ ts. ts ++ end_array ∷ []) (middle ∙ ap (λ ts. ts ++ inside) opened) ∙ append_assoc (old ++ begin_array ∷ []) inside (end_array ∷ [])
    ∙ append_assoc old (begin_array ∷ []) (inside ++ end_array ∷ []) ∙ ap (λ ts. old ++ ts) (sym (tokens_of_items-list_of items))

-- items between two brackets are written as their array
pub Appends-list_of : {E : Type 0} (r : Result (Unit {0}) E) (old begun written closed : Written) (items : List Data)
    → begun.tokens ≡ old.tokens ++ begin_array ∷ [] → begun.before ≡ old.before → Appends begun written items → Writes r written closed end_array
    → OnOk r (Appends old closed (list_of items ∷ []))
Appends-list_of r old begun written closed items opened kept middle end =
    on_ok_weaker r (λ (ended : closed.tokens ≡ written.tokens ++ end_array ∷ []). record {
      tokens = tokens-list_of old.tokens begun.tokens written.tokens closed.tokens items opened middle.tokens ended;
      before = end.room.0 ∙ middle.before ∙ kept;
    }) end.ok

-- the same, where nothing failed
pub Appends-between : (old begun written closed : Written) (items : List Data)
    → begun.tokens ≡ old.tokens ++ begin_array ∷ [] → begun.before ≡ old.before → Appends begun written items
    → closed.tokens ≡ written.tokens ++ end_array ∷ [] → closed.before ≡ written.before → Appends old closed (list_of items ∷ [])
Appends-between old begun written closed items opened kept middle ended same = record {
  tokens = tokens-list_of old.tokens begun.tokens written.tokens closed.tokens items opened middle.tokens ended;
  before = same ∙ middle.before ∙ kept;
}

-- an item that is written from nothing is printed as its compact text
pub print-item : (old new : Written) (item : Data) → old.before ≡ [] → old.tokens ≡ [] → Appends old new (item ∷ []) → new.before ++ print new.tokens ≡ compact_text item
print-item old new item no_bytes no_tokens written =
    let all : new.tokens ≡ item_tokens item = written.tokens ∙ ap (λ ts. ts ++ tokens_of_items (item ∷ [])) no_tokens ∙ append-nil (item_tokens item) in
    ap₂ (λ bytes ts. bytes ++ print ts) (written.before ∙ no_bytes) all ∙ print-outline item
