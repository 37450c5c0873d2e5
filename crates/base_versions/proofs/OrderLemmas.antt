-- Keys in order, one more at a time.
use Rattle.std.proofs.Common.{◌≡◌, ℕ, ◌+◌, ◌<◌, List, [], ◌∷◌, ◌++◌, length, take, map, filter, get_or, Bool, true, false, cond, sym, ap, ◌∙◌}
use Rattle.std.specs.BTreeSet.{insert_key}
use Rattle.std.proofs.lemmas.List.{append-nil, map-append, take_more}
use Rattle.std.proofs.lemmas.List.Elements.{filter-append}
use Rattle.semantics.specs.Texts.{Text, text_cmp, Range, within}
use Rattle.growing_history.specs.Changes.{in_order}
use Rattle.growing_history.proofs.OrderLemmas.{in_order-push}
use Rattle.base_versions.specs.declared.changes.Change.{Change}
use Rattle.base_versions.specs.Changes.{keys_within}

one_within : (b : Bool) (t : Text) (ts : List Text) → in_order (ts ++ cond b (t ∷ []) []) ≡ cond b (insert_key text_cmp (in_order ts) t) (in_order ts)
one_within true t ts = in_order-push ts t
one_within false t ts = ap in_order (append-nil ts)

-- one change more: its key takes its place, where it lies in the range
in_order-more : (r : Range) (cs : List Change) (c : Change) →
    in_order (keys_within r (cs ++ c ∷ [])) ≡ cond (within r c.key) (insert_key text_cmp (in_order (keys_within r cs)) c.key) (in_order (keys_within r cs))
in_order-more r cs c =
    ap (λ ks. in_order (filter (within r) ks)) (map-append (λ (x : Change). x.key) cs (c ∷ []))
    ∙ ap in_order (filter-append (within r) (map (λ x. x.key) cs) (c.key ∷ []))
    ∙ one_within (within r c.key) c.key (keys_within r cs)

-- the step of a loop over changes
pub in_order-take : (r : Range) (cs : List Change) (i : ℕ) (c : Change) (b : Bool) → i < length cs → c ≡ get_or cs i c → b ≡ within r c.key →
    in_order (keys_within r (take (i + 1) cs)) ≡ cond b (insert_key text_cmp (in_order (keys_within r (take i cs))) c.key) (in_order (keys_within r (take i cs)))
in_order-take r cs i c b h at e =
    ap (λ xs. in_order (keys_within r xs)) (take_more cs i c h ∙ ap (λ x. take i cs ++ x ∷ []) (sym at))
    ∙ in_order-more r (take i cs) c
    ∙ ap (λ x. cond x (insert_key text_cmp (in_order (keys_within r (take i cs))) c.key) (in_order (keys_within r (take i cs)))) (sym e)
