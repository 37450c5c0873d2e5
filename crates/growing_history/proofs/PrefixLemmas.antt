-- Histories that begin with one another.
use Rattle.std.proofs.Common.{◌≡◌, ℕ, ◌≤◌, List, [], ◌∷◌, ◌++◌, length, take, Some, refl, sym, ap, ◌∙◌, arith, append_assoc}
use Rattle.std.specs.Prelude.{slice_get}
use Rattle.std.proofs.lemmas.List.{append-nil, length-append, take-append-le}
use Rattle.semantics.specs.Histories.{Entry, History, IsPrefix}

-- a list begins with itself
pub prefix_refl : (h : History) → IsPrefix h h
prefix_refl h = ([], sym (append-nil h))

-- what begins with what begins with a list begins with the list
pub prefix_trans : (h more most : History) → IsPrefix h more → IsPrefix more most → IsPrefix h most
prefix_trans h more most first next = (first.0 ++ next.0, next.1 ∙ ap (λ es. es ++ next.0) first.1 ∙ append_assoc h first.0 next.0)

-- a beginning is no longer
pub prefix_length : (h more : History) → IsPrefix h more → length h ≤ length more
prefix_length h more prefix = let e = ap length prefix.1 ∙ length-append h prefix.0 in omega arith

-- the first entries of a beginning are those of the list
pub take_prefix : (p : ℕ) (h more : History) → p ≤ length h → IsPrefix h more → take p more ≡ take p h
take_prefix p h more within prefix = ap (take p) prefix.1 ∙ take-append-le p h prefix.0 within

-- what stands behind a list
behind : {A : Type 0} (xs ys : List A) → slice_get (xs ++ ys) (length xs) ≡ slice_get ys 0
behind [] ys = refl
behind (x ∷ xs) ys = behind xs ys

-- a list by its first element
pub by_first : {A : Type 0} (ys : List A) (a : A) → slice_get ys 0 ≡ Some a → (rest : List A) × (ys ≡ a ∷ rest)
by_first [] a is = absurd (cc)
by_first (y ∷ ys) a is = (ys, cc)

-- an entry that stands behind a beginning is part of a longer one
pub prefix_with : (h more : History) (e : Entry) → IsPrefix h more → slice_get more (length h) ≡ Some e → IsPrefix (h ++ e ∷ []) more
prefix_with h more e begins is =
    let first = by_first begins.0 e (sym (behind h begins.0) ∙ ap (λ (l : History). slice_get l (length h)) (sym begins.1) ∙ is) in
    (first.0, begins.1 ∙ ap (λ (l : History). h ++ l) first.1 ∙ sym (append_assoc h (e ∷ []) first.0))
