-- A list in a loop over it.
use Rattle.std.proofs.Common.{◌≡◌, ◌+◌, ◌<◌, List, ◌∷◌, ◌++◌, length, map, take, drop, get_or, sym, ap, ◌∙◌}
use Rattle.std.proofs.lemmas.List.{drop_more, map-id, take-append-drop}

-- a list by what came before one of its elements
pub at_turn : {A : Type 0} (all before : List A) (x : A) → map (λ (y : A). y) before ≡ take (length before) all → (length before < length all) × (x ≡ get_or all (length before) x) → all ≡ before ++ x ∷ drop (length before + 1) all
at_turn {A} all before x so_far turn =
    let first : before ≡ take (length before) all = sym (map-id before) ∙ so_far in
    let rest : drop (length before) all ≡ x ∷ drop (length before + 1) all = drop_more all (length before) x turn.0 ∙ ap (λ (y : A). y ∷ drop (length before + 1) all) (sym turn.1) in
    sym (take-append-drop (length before) all) ∙ ap (λ (xs : List A). xs ++ drop (length before) all) (sym first) ∙ ap (λ (xs : List A). before ++ xs) rest
