-- Keys in order, one more at a time.
use Rattle.std.proofs.Common.{◌≡◌, List, [], ◌∷◌, ◌++◌, map, fold, refl, ap, ◌∙◌, Ordering, Less, Equal, Greater}
use Rattle.std.specs.Ordering.{match_ordering}
use Rattle.std.specs.FinMap.Entries.{by_order}
use Rattle.std.specs.BTreeSet.{insert_key}
use Rattle.std.proofs.lemmas.List.Sums.{fold_push}
use Rattle.semantics.specs.Texts.{Text, text_cmp, Table, with_pair}
use Rattle.growing_history.specs.Changes.{in_order}

abbrev keys : Table → List Text
keys table = map (λ pair. pair.0) table

inserted : (o : Ordering) (k x : Text) (v w : Text) (rest more : Table) (xs : List Text) → keys more ≡ xs →
    keys (by_order o ((k, v) ∷ (x, w) ∷ rest) ((x, v) ∷ rest) ((x, w) ∷ more)) ≡ match_ordering o (k ∷ x ∷ keys rest) (x ∷ keys rest) (x ∷ xs)
inserted Less k x v w rest more xs e = refl
inserted Equal k x v w rest more xs e = refl
inserted Greater k x v w rest more xs e = ap (λ ks. x ∷ ks) e

-- a pair more is a key more
keys-with_pair : (key value : Text) (table : Table) → keys (with_pair key value table) ≡ insert_key text_cmp (keys table) key
keys-with_pair key value [] = refl
keys-with_pair key value (e ∷ es) =
    inserted (text_cmp key e.0) key e.0 value e.1 es (with_pair key value es) (insert_key text_cmp (keys es) key) (keys-with_pair key value es)

-- one text more takes its place
pub in_order-push : (ts : List Text) (t : Text) → in_order (ts ++ t ∷ []) ≡ insert_key text_cmp (in_order ts) t
in_order-push ts t =
    let step = λ (table : Table) (x : Text). with_pair x [] table in
    ap keys (fold_push step [] ts t) ∙ keys-with_pair t [] (fold step [] ts)
