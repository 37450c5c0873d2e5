-- Lists of stays, element by element.
use Rattle.std.proofs.Common.{◌≡◌, ℕ, zero, suc, ◌+◌, ◌<◌, ◌≤◌, List, [], ◌∷◌, ◌++◌, length, map, filter, take, drop, get_or, Bool, true, false, cond, refl, sym, ap, ◌∙◌, arith, append_assoc, length-take, slice_set, nat_le}
use Rattle.std.proofs.lemmas.List.{take_more, map-append, length-map}
use Rattle.std.proofs.lemmas.List.Elements.{All-cons, All-nil}
use Rattle.std.proofs.Math.Seq.{drop-cons}
use Rattle.std.proofs.lemmas.Bool.{and_parts}
use Rattle.semantics.specs.Stays.{Stay, declared, is_after, stands_at, joins_at}
use Rattle.join_set.specs.Sets.{AreUpTo}
use Rattle.join_set.specs.Timelines.{up_to, changed_up_to}

-- what is left from a place on begins with the element there
pub left_at : {X : Type 0} (xs : List X) (i : ℕ) (x : X) → i < length xs → x ≡ get_or xs i x → drop i xs ≡ x ∷ drop (i + 1) xs
left_at xs i x less is =
    let more : suc i ≡ i + 1 = omega arith in
    drop-cons xs i x less ∙ (λ k. sym is k ∷ drop (more k) xs)

-- the element at a place, whatever stands past the end
same_at : {X : Type 0} (xs : List X) (i : ℕ) (d e : X) → i < length xs → get_or xs i e ≡ get_or xs i d
same_at [] i d e less = absurd (omega arith)
same_at (x ∷ xs) zero d e less = refl
same_at (x ∷ xs) (suc i) d e less = same_at xs i d e (omega arith)

-- ---- the joins that stand after the first entries

-- each was declared up to the last change
pub joins_at_up_to : (p n : ℕ) (stays : List Stay) → changed_up_to p stays ≤ n → AreUpTo n (joins_at p stays)
joins_at_up_to p n [] low = All-nil (λ s. s.position ≤ n)
joins_at_up_to p n (s ∷ stays) low = by (stands_at p s) refl (joins_at_up_to p n stays (omega (arith, low)))
  where
    by : (b : Bool) → stands_at p s ≡ b → AreUpTo n (joins_at p stays) → AreUpTo n (map declared (cond b (s ∷ filter (stands_at p) stays) (filter (stands_at p) stays)))
    by false is rest = rest
    by true is rest =
        let begun = (and_parts (nat_le s.position p) (is_after p s.until) is).0 in
        let here : up_to p s.position ≡ s.position = ap (λ c. cond c s.position 0) begun in
        All-cons (λ t. t.position ≤ n) (declared s) (joins_at p stays) (omega (arith, low, here)) rest

-- ---- stays that are ended one by one

get_seam : {X : Type 0} (front back : List X) (x d : X) → get_or (front ++ x ∷ back) (length front) d ≡ x
get_seam [] back x d = refl
get_seam (z ∷ front) back x d = get_seam front back x d

set_seam : {X : Type 0} (front back : List X) (x y : X) → slice_set (front ++ x ∷ back) (length front) y ≡ front ++ y ∷ back
set_seam [] back x y = refl
set_seam (z ∷ front) back x y = ap (λ l. z ∷ l) (set_seam front back x y)

-- the first elements are changed, and now the next one is
pub changed_more : {X : Type 0} (f : X → X) (xs now : List X) (i : ℕ) (d y : X) → i < length xs → now ≡ map f (take i xs) ++ drop i xs → y ≡ f (get_or now i d) →
    slice_set now i y ≡ map f (take (i + 1) xs) ++ drop (i + 1) xs
changed_more f xs now i d y less is next =
    let z = get_or xs i d in
    let front = map f (take i xs) in
    let place : length front ≡ i = omega (arith, length-map (take i xs) f, length-take i xs) in
    let split : now ≡ front ++ z ∷ drop (i + 1) xs = is ∙ ap (λ l. front ++ l) (left_at xs i z less (sym (same_at xs i d z less))) in
    let here : get_or now i d ≡ z = (λ k. get_or (split k) (sym place k) d) ∙ get_seam front (drop (i + 1) xs) z d in
    (λ k. slice_set (split k) (sym place k) ((next ∙ ap f here) k))
    ∙ set_seam front (drop (i + 1) xs) z (f z)
    ∙ sym (append_assoc front (f z ∷ []) (drop (i + 1) xs))
    ∙ ap (λ l. l ++ drop (i + 1) xs) (sym (ap (map f) (take_more xs i d less) ∙ map-append f (take i xs) (z ∷ [])))
