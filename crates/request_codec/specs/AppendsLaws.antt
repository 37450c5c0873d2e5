-- Laws on pairs that are written one behind another.
use Rattle.std.proofs.Common.{◌≡◌, [], ◌++◌, map, refl, sym, ap, ◌∙◌, append_assoc, append-nil}
use Rattle.std.proofs.lemmas.List.{map-append}
use Rattle.std.proofs.lemmas.List.Concat.{flat_map-append}
use Rattle.json.specs.Written.{Written}
use Rattle.semantics.specs.Texts.{Table}
use Rattle.protocol.specs.Replies.{pair_item}
use Rattle.request_codec.specs.Tokens.{Appends, item_tokens, tokens_of_items}

-- the tokens of pairs, and of more behind them
pub pairs-append : (rows more : Table) → tokens_of_items (map pair_item (rows ++ more)) ≡ tokens_of_items (map pair_item rows) ++ tokens_of_items (map pair_item more)
pairs-append rows more = ap tokens_of_items (map-append pair_item rows more) ∙ flat_map-append item_tokens (map pair_item rows) (map pair_item more)

-- where nothing was written
pub appends_none : (w : Written) → Appends w w []
appends_none w = record { tokens = sym (append-nil w.tokens); before = refl }

-- pairs, and more behind them
pub appends_more : (a b c : Written) (rows more : Table) → Appends a b (map pair_item rows) → Appends b c (map pair_item more) → Appends a c (map pair_item (rows ++ more))
appends_more a b c rows more first next = record {
  tokens = next.tokens ∙ ap (λ ts. ts ++ tokens_of_items (map pair_item more)) first.tokens
      ∙ append_assoc a.tokens (tokens_of_items (map pair_item rows)) (tokens_of_items (map pair_item more)) ∙ ap (λ ts. a.tokens ++ ts) (sym (pairs-append rows more));
  before = next.before ∙ first.before;
}
