-- Beginnings of histories.
use Rattle.std.proofs.Common.{◌≡◌, ℕ, zero, suc, ◌+◌, ◌-◌, ◌≤◌, List, [], ◌∷◌, ◌++◌, length, take, drop, filter, flat_map, map, refl, sym, ap, ◌∙◌, arith}
use Rattle.std.proofs.lemmas.List.{length-drop, length-take, drop-append-le, take-append-drop, take-append-le}
use Rattle.semantics.specs.Histories.{History, IsPrefix, base_of}
use Rattle.growing_history.specs.Changes.{entries_between, in_order, written, changed_keys}
use Rattle.semantics.specs.Texts.{Range, within}
use Rattle.growing_history.proofs.PrefixLemmas.{take_prefix}
use Rattle.growing_history.specs.StateChanges.{change_to}
use Rattle.base_versions.specs.Valued.{base_changes}

take_nothing : {A : Type 0} (n : ℕ) → take {A = A} n [] ≡ []
take_nothing zero = refl
take_nothing (suc n) = refl

-- the first elements, and the first of those that follow
pub take_then : {A : Type 0} (n k : ℕ) (xs : List A) → take n xs ++ take k (drop n xs) ≡ take (n + k) xs
take_then zero k xs = ap (λ m. take m xs) (let e : k ≡ 0 + k = omega arith in e)
take_then (suc n) k [] = take_nothing k ∙ sym (take_nothing (suc n + k))
take_then (suc n) k (x ∷ xs) = ap (λ ys. x ∷ ys) (take_then n k xs) ∙ ap (λ m. take m (x ∷ xs)) (let e : suc (n + k) ≡ suc n + k = omega arith in e)

-- a history begins with its first entries
pub take_is_prefix : (n : ℕ) (h : History) → IsPrefix (take n h) h
take_is_prefix n h = (drop n h, sym (take-append-drop n h))

-- the first of the first entries
pub take_of_take : (p n : ℕ) (h : History) → p ≤ n → n ≤ length h → take p (take n h) ≡ take p h
take_of_take p n h less inside =
    let long : p ≤ length (take n h) = omega (arith, length-take n h) in
    sym (take_prefix p (take n h) h long (take_is_prefix n h))

-- of a longer history the entries between two positions are the same
pub between_prefix : (q p : ℕ) (h more : History) → q ≤ p → p ≤ length h → IsPrefix h more → entries_between q p more ≡ entries_between q p h
between_prefix q p h more order inside prefix =
    let fits : p - q ≤ length (drop q h) = omega (arith, length-drop q h) in
    ap (λ es. take (p - q) (drop q es)) prefix.1 ∙ ap (take (p - q)) (drop-append-le q h prefix.0 (omega arith)) ∙ take-append-le (p - q) (drop q h) prefix.0 fits

-- and so are the changed keys of a range
pub changed_prefix : (q p : ℕ) (range : Range) (h more : History) → q ≤ p → p ≤ length h → IsPrefix h more → changed_keys q p range more ≡ changed_keys q p range h
unfolding changed_keys
changed_prefix q p range h more order inside prefix =
    ap (λ es. in_order (filter (within range) (flat_map (λ e. written e.write) es))) (between_prefix q p h more order inside prefix)

-- and so are these with what stands there
pub base_changes_prefix : (q p : ℕ) (range : Range) (h more : History) → q ≤ p → p ≤ length h → IsPrefix h more → base_changes q p range more ≡ base_changes q p range h
base_changes_prefix q p range h more order inside prefix =
    λ i. map (change_to (base_of (take_prefix p h more inside prefix i))) (changed_prefix q p range h more order inside prefix i)
