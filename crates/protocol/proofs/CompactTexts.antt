-- Values of texts, small numbers and arrays have different compact texts.
use Rattle.std.proofs.Common.{◌≡◌, ◌+◌, ◌^◌, ◌<◌, List, [], ◌∷◌, ◌++◌, Option, Some, option_map, option_and_then, refl, sym, ap, ap₂, ◌∙◌, arith, map}
use Rattle.std.specs.Prelude.{⊤}
use Rattle.std.specs.List.{AllByRecursion}
use Rattle.json.specs.Token.{Token}
use Rattle.json.specs.Lex.{tokens}
use Rattle.json.specs.Json as json
use Rattle.json.specs.Tree as tree
use Rattle.json.proofs.Printed.Tokens.{tokens-print}
use Rattle.json.proofs.Printed.Decimals.{IsNumber-decimal}
use Rattle.json.proofs.Printed.Trees.{value-json_tokens, ArePrintable-json_tokens}
use Rattle.serde_json.specs.Data.{Num, unsigned, negative, float, Data, null, boolean, number, string, array, object, Items, no_items, item}
use Rattle.serde_json.specs.Read.{of_json, of_items}
use Rattle.serde_json.specs.View.{items_of}
use Rattle.serde_json.specs.Written.{outline, items_outline, compact_text}
use Rattle.serde_json.proofs.Numbers.{number_of-decimal}
use Rattle.serde_json.proofs.Texts.{print-outline}

-- the number is whole, and below 2^64
abbrev pub IsSmallNumber : Num → Type 0
IsSmallNumber (unsigned n) = n < 2 ^ 64
IsSmallNumber (negative z) = ⊥
IsSmallNumber (float x) = ⊥

-- the value has texts, small whole numbers and arrays of such values, and no object
abbrev mutual
  pub IsSmallData : Data → Type 0
  IsSmallData null = ⊤
  IsSmallData (boolean b) = ⊤
  IsSmallData (number n) = IsSmallNumber n
  IsSmallData (string s) = ⊤
  IsSmallData (array ds) = AreSmallItems ds
  IsSmallData (object ms) = ⊥

  pub AreSmallItems : Items → Type 0
  AreSmallItems no_items = ⊤
  AreSmallItems (item d ds) = IsSmallData d × AreSmallItems ds

-- ---- what its text is read back as

mutual
  small_numbers : (d : Data) → IsSmallData d → tree.HasNumbers (outline d)
  small_numbers null h = tt
  small_numbers (boolean b) h = tt
  small_numbers (number (unsigned n)) h = IsNumber-decimal n h
  small_numbers (number (negative z)) h = absurd h
  small_numbers (number (float x)) h = absurd h
  small_numbers (string s) h = tt
  small_numbers (array ds) h = small_items_numbers ds h
  small_numbers (object ms) h = absurd h

  small_items_numbers : (ds : Items) → AreSmallItems ds → tree.ItemsHaveNumbers (items_outline ds)
  small_items_numbers no_items h = tt
  small_items_numbers (item d ds) h = (small_numbers d h.0, small_items_numbers ds h.1)

mutual
  of_json-outline : (d : Data) → IsSmallData d → of_json (outline d) ≡ Some d
  of_json-outline null h = refl
  of_json-outline (boolean b) h = refl
  of_json-outline (number (unsigned n)) h = ap (option_map number) (number_of-decimal n h)
  of_json-outline (number (negative z)) h = absurd h
  of_json-outline (number (float x)) h = absurd h
  of_json-outline (string s) h = refl
  of_json-outline (array ds) h = ap (option_map array) (of_items-outline ds h)
  of_json-outline (object ms) h = absurd h

  of_items-outline : (ds : Items) → AreSmallItems ds → of_items (items_outline ds) ≡ Some ds
  of_items-outline no_items h = refl
  of_items-outline (item d ds) h =
      ap₂ (λ first others. option_and_then (λ e. option_map (item e) others) first) (of_json-outline d h.0) (of_items-outline ds h.1)

-- the value that was read, without what follows it
first_read : Option (json.Json × List Token) → Option json.Json
first_read = option_map (λ p. p.0)

-- values of JSON with the same tokens are the same
json_tokens_injective : (j k : json.Json) → tree.json_tokens j ≡ tree.json_tokens k → j ≡ k
unfolding first_read
json_tokens_injective j k same =
    let deep = tree.depth j + tree.depth k in
    let one = value-json_tokens j deep [] (omega arith) in
    let other = value-json_tokens k deep [] (omega arith) in
    let both : ◌≡◌ {A = Option (json.Json × List Token)} (Some (j, [])) (Some (k, [])) = sym one ∙ ap (λ ts. json.value deep (ts ++ [])) same ∙ other in
    let values : Some j ≡ Some k = ap first_read both in
    cc

-- the tokens of a compact text are those of its outline
tokens-compact_text : (d : Data) → IsSmallData d → tokens (compact_text d) ≡ tree.json_tokens (outline d)
tokens-compact_text d h = ap tokens (sym (print-outline d)) ∙ tokens-print (tree.json_tokens (outline d)) (ArePrintable-json_tokens (outline d) (small_numbers d h))

-- small values with the same compact text are the same
pub compact_text_injective : (d e : Data) → IsSmallData d → IsSmallData e → compact_text d ≡ compact_text e → d ≡ e
compact_text_injective d e h k same =
    let outlines = json_tokens_injective (outline d) (outline e) (sym (tokens-compact_text d h) ∙ ap tokens same ∙ tokens-compact_text e k) in
    let values : Some d ≡ Some e = sym (of_json-outline d h) ∙ ap of_json outlines ∙ of_json-outline e k in
    cc

-- ---- lists of items

-- lists with the same items are the same
pub items_of_injective : (ds es : List Data) → items_of ds ≡ items_of es → ds ≡ es
items_of_injective [] [] same = refl
items_of_injective [] (e ∷ es) same = absurd (cc)
items_of_injective (d ∷ ds) [] same = absurd (cc)
items_of_injective (d ∷ ds) (e ∷ es) same =
    let others : items_of ds ≡ items_of es = cc in
    let rest = items_of_injective ds es others in
    cc

-- a list of small values is a small value
pub AreSmallItems-items_of : (ds : List Data) → AllByRecursion IsSmallData ds → AreSmallItems (items_of ds)
AreSmallItems-items_of [] h = tt
AreSmallItems-items_of (d ∷ ds) h = (h.0, AreSmallItems-items_of ds h.1)

-- what holds of each element under a function holds of each of the values
pub AllByRecursion-map : {A B : Type 0} (P : A → Type 0) (Q : B → Type 0) (f : A → B) → ((a : A) → P a → Q (f a)) → (xs : List A) → AllByRecursion P xs → AllByRecursion Q (map f xs)
AllByRecursion-map P Q f give [] h = tt
AllByRecursion-map P Q f give (x ∷ xs) h = (give x h.0, AllByRecursion-map P Q f give xs h.1)
