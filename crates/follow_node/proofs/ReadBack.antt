-- The compact text of texts, small whole numbers and arrays of such values is read back.
use Rattle.std.proofs.Common.{◌≡◌, ◌≤◌, List, [], ◌++◌, Option, Some, option_map, option_and_then, refl, sym, ap, ap₂, ◌∙◌, arith, append-nil}
use Rattle.json.specs.Token.{Token}
use Rattle.json.specs.Lex.{tokens}
use Rattle.json.specs.Json as json
use Rattle.json.specs.Tree as tree
use Rattle.json.proofs.Printed.Tokens.{tokens-print}
use Rattle.json.proofs.Printed.Decimals.{IsNumber-decimal}
use Rattle.json.proofs.Printed.Trees.{value-json_tokens, ArePrintable-json_tokens}
use Rattle.serde_json.specs.Data.{Num, unsigned, negative, float, Data, null, boolean, number, string, array, object, Items, no_items, item}
use Rattle.serde_json.specs.Read.{of_json, of_items, read, max_depth}
use Rattle.serde_json.specs.Written.{outline, items_outline, compact_text}
use Rattle.serde_json.proofs.Numbers.{number_of-decimal}
use Rattle.serde_json.proofs.Texts.{print-outline}
use Rattle.protocol.proofs.CompactTexts.{IsSmallData, AreSmallItems}

mutual
  small_numbers : (d : Data) → IsSmallData d → tree.HasNumbers (outline d)
  small_numbers null h = tt
  small_numbers (boolean b) h = tt
  small_numbers (number (unsigned n)) h = IsNumber-decimal n h
  small_numbers (number (negative z)) h = absurd h
  small_numbers (number (float x)) h = absurd h
  small_numbers (string s) h = tt
  small_numbers (array ds) h = small_items_numbers ds h
  small_numbers (object ms) h = absurd h

  small_items_numbers : (ds : Items) → AreSmallItems ds → tree.ItemsHaveNumbers (items_outline ds)
  small_items_numbers no_items h = tt
  small_items_numbers (item d ds) h = (small_numbers d h.0, small_items_numbers ds h.1)

mutual
  of_json-outline : (d : Data) → IsSmallData d → of_json (outline d) ≡ Some d
  of_json-outline null h = refl
  of_json-outline (boolean b) h = refl
  of_json-outline (number (unsigned n)) h = ap (option_map number) (number_of-decimal n h)
  of_json-outline (number (negative z)) h = absurd h
  of_json-outline (number (float x)) h = absurd h
  of_json-outline (string s) h = refl
  of_json-outline (array ds) h = ap (option_map array) (of_items-outline ds h)
  of_json-outline (object ms) h = absurd h

  of_items-outline : (ds : Items) → AreSmallItems ds → of_items (items_outline ds) ≡ Some ds
  of_items-outline no_items h = refl
  of_items-outline (item d ds) h =
      ap₂ (λ first others. option_and_then (λ e. option_map (item e) others) first) (of_json-outline d h.0) (of_items-outline ds h.1)

tokens-compact_text : (d : Data) → IsSmallData d → tokens (compact_text d) ≡ tree.json_tokens (outline d)
tokens-compact_text d h = ap tokens (sym (print-outline d)) ∙ tokens-print (tree.json_tokens (outline d)) (ArePrintable-json_tokens (outline d) (small_numbers d h))

-- the value of tokens, where none is left
abbrev whole : Option (json.Json × List Token) → Option Data
whole o = option_and_then of_json (option_and_then (λ p. json.if_last p.0 p.1) o)

-- a small value that nests no deeper than is read
pub read-compact_text : (d : Data) → IsSmallData d → tree.depth (outline d) ≤ max_depth → read (compact_text d) ≡ Some d
read-compact_text d h shallow =
    ap whole (ap (json.value max_depth) (tokens-compact_text d h ∙ sym (append-nil (tree.json_tokens (outline d)))) ∙ value-json_tokens (outline d) max_depth [] shallow)
    ∙ of_json-outline d h
