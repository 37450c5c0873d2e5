-- Texts in order, each once.
use Rattle.std.proofs.Common.{◌≡◌, ◌+◌, List, [], ◌∷◌, ◌++◌, map, fold, refl, sym, ap, ◌∙◌, subst, append_assoc, Less, Greater}
use Rattle.std.specs.List.Sorted.{IsStrictlySortedBy}
use Rattle.std.specs.Ordering.{ordering_reverse}
use Rattle.std.specs.BTreeSet.{insert_key}
use Rattle.std.specs.FinMap.Entries.{by_order}
use Rattle.std.proofs.lemmas.Cmp.{nat_list_cmp_total}
use Rattle.std.proofs.lemmas.List.{append-nil}
use Rattle.semantics.specs.Texts.{Text, text_cmp, Table, with_pair}
use Rattle.growing_history.specs.Changes.{in_order}
use Rattle.growing_history.proofs.ElementLemmas.{all_right}
use Rattle.growing_history.proofs.OrderLemmas.{in_order-push}

-- a table of texts without values
abbrev rows : List Text → Table
rows ts = map (λ t. (t, [])) ts

abbrev keys : Table → List Text
keys table = map (λ pair. pair.0) table

keys-rows : (ts : List Text) → keys (rows ts) ≡ ts
keys-rows [] = refl
keys-rows (t ∷ ts) = ap (λ us. t ∷ us) (keys-rows ts)

-- a text that is above all others comes last
put_last : (done : List Text) (t : Text) (ts : List Text) → IsStrictlySortedBy text_cmp (done ++ t ∷ ts) → with_pair t [] (rows done) ≡ rows (done ++ t ∷ [])
unfolding IsStrictlySortedBy
put_last [] t ts sorted = refl
put_last (d ∷ ds) t ts sorted =
    let less : text_cmp d t ≡ Less = (all_right (λ y. text_cmp d y ≡ Less) ds (t ∷ ts) sorted.0).0 in
    let greater : text_cmp t d ≡ Greater = nat_list_cmp_total.antisymm t d ∙ ap ordering_reverse less in
    ap (λ o. by_order o ((t, []) ∷ rows (d ∷ ds)) ((d, []) ∷ rows ds) ((d, []) ∷ with_pair t [] (rows ds))) greater
    ∙ ap (λ rest. (d, []) ∷ rest) (put_last ds t ts sorted.1)

put_all : (done ts : List Text) → IsStrictlySortedBy text_cmp (done ++ ts) → fold (λ table t. with_pair t [] table) (rows done) ts ≡ rows (done ++ ts)
put_all done [] sorted = ap rows (sym (append-nil done))
put_all done (t ∷ ts) sorted =
    ap (λ table. fold (λ table t. with_pair t [] table) table ts) (put_last done t ts sorted)
    ∙ put_all (done ++ t ∷ []) ts (subst (IsStrictlySortedBy text_cmp) (sym (append_assoc done (t ∷ []) ts)) sorted)
    ∙ ap rows (append_assoc done (t ∷ []) ts)

-- texts that ascend are in order
pub in_order-ascending : (ts : List Text) → IsStrictlySortedBy text_cmp ts → in_order ts ≡ ts
in_order-ascending ts sorted = ap keys (put_all [] ts sorted) ∙ keys-rows ts

-- one text more takes its place among those that are in order
pub in_order_more : (before done : List Text) (t : Text) (found : List Text) → found ≡ in_order (before ++ done) → insert_key text_cmp found t ≡ in_order (before ++ (done ++ t ∷ []))
in_order_more before done t found is =
    ap (λ ts. insert_key text_cmp ts t) is ∙ sym (in_order-push (before ++ done) t) ∙ ap in_order (append_assoc before done (t ∷ []))
