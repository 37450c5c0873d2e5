-- Lists: parts of them, and which begin with one another.
use Rattle.std.proofs.Common.{◌≡◌, ℕ, zero, suc, slice_get, Some, ◌+◌, ◌-◌, ◌<◌, ◌≤◌, List, [], ◌∷◌, ◌++◌, length, get_or, take, drop, sym, ap, ◌∙◌, arith}
use Rattle.std.proofs.lemmas.List.{length-drop, get_or-drop, take_more, drop-append-le, take-append-le}

-- the elements from one place up to another, and the next
pub range_more : {A : Type 0} (xs : List A) (from place : ℕ) (x : A) → from ≤ place → place < length xs → x ≡ get_or xs place x →
    take (place + 1 - from) (drop from xs) ≡ take (place - from) (drop from xs) ++ x ∷ []
range_more xs from place x order less is =
    let there : place - from < length (drop from xs) = omega (arith, length-drop from xs) in
    let same : from + (place - from) ≡ place = omega arith in
    ap (λ n. take n (drop from xs)) (omega arith)
    ∙ take_more (drop from xs) (place - from) x there
    ∙ ap (λ y. take (place - from) (drop from xs) ++ y ∷ []) (get_or-drop from xs (place - from) x ∙ ap (λ i. get_or xs i x) same ∙ sym is)

-- between two places of a list stands the same in each list that begins with it
pub range_of_longer : {A : Type 0} (xs rest : List A) (from to : ℕ) → from ≤ to → to ≤ length xs → take (to - from) (drop from (xs ++ rest)) ≡ take (to - from) (drop from xs)
range_of_longer xs rest from to order within =
    let low : from ≤ length xs = omega arith in
    let fits : to - from ≤ length (drop from xs) = omega (arith, length-drop from xs) in
    ap (take (to - from)) (drop-append-le from xs rest low) ∙ take-append-le (to - from) (drop from xs) rest fits

-- each element is what its place says, and so is the next
pub each_push : {A : Type 0} (xs : List A) (x : A) (n : ℕ) (f : ℕ → A) → length xs ≡ n → ((i : ℕ) → i < n → slice_get xs i ≡ Some (f i)) → x ≡ f n →
    (i : ℕ) → i < n + 1 → slice_get (xs ++ x ∷ []) i ≡ Some (f i)
each_push [] x n f size old is zero less = let first : n ≡ 0 = omega arith in ap (λ y. Some y) (is ∙ ap f first)
each_push [] x n f size old is (suc i) less = absurd (omega arith)
each_push (y ∷ xs) x n f size old is zero less = old zero (omega arith)
each_push (y ∷ xs) x n f size old is (suc i) less =
    let before : n ≡ suc (n - 1) = omega arith in
    each_push xs x (n - 1) (λ j. f (suc j)) (omega arith) (λ j below. old (suc j) (omega arith)) (is ∙ ap f before) i (omega arith)
