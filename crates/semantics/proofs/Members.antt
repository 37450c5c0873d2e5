-- Members of lists, by recursion.
use Rattle.std.proofs.Common.{Contains, get_or, ◌≡◌, ℕ, zero, suc, ◌+◌, ◌<◌, ◌≤◌, ◌⊎◌, inl, inr, List, [], ◌∷◌, ◌++◌, map, filter, flat_map, Bool, true, false, refl, sym, ap, ap₂, subst, arith, eqb, length, ne_eqb, eqb-true, Option, Some, None, filter_map, ◌∙◌}
use Rattle.std.specs.List.{range_with_len, list_any, AllByRecursion, IsDistinct, cons_option, enumerate_from}
use Rattle.std.proofs.lemmas.Map.Steps.{length-le_from_distinct_below}
use Rattle.std.proofs.lemmas.Bool.{cond_both, cases_Bool, cases_eq, or_cases, or_left, or_right, false≢true, cond-true, cond-false}

-- the first is an element of the list
abbrev pub IsIn : {X : Type 0} → X → List X → Type 0
IsIn x [] = ⊥
IsIn x (y ∷ ys) = (x ≡ y) ⊎ IsIn x ys

-- an element of the front is one of the whole
pub IsIn-append_left : {X : Type 0} (x : X) (xs ys : List X) → IsIn x xs → IsIn x (xs ++ ys)
IsIn-append_left x [] ys m = absurd m
IsIn-append_left x (y ∷ xs) ys (inl e) = inl e
IsIn-append_left x (y ∷ xs) ys (inr m) = inr (IsIn-append_left x xs ys m)

-- an element of the back is one of the whole
pub IsIn-append_right : {X : Type 0} (x : X) (xs ys : List X) → IsIn x ys → IsIn x (xs ++ ys)
IsIn-append_right x [] ys m = m
IsIn-append_right x (y ∷ xs) ys m = inr (IsIn-append_right x xs ys m)

-- an element of the whole is one of the front or of the back
pub IsIn-append_cases : {X : Type 0} (x : X) (xs ys : List X) → IsIn x (xs ++ ys) → IsIn x xs ⊎ IsIn x ys
IsIn-append_cases x [] ys m = inr m
IsIn-append_cases x (y ∷ xs) ys (inl e) = inl (inl e)
IsIn-append_cases x (y ∷ xs) ys (inr m) = elim (IsIn-append_cases x xs ys m) [ inl n ↦ inl (inr n) | inr n ↦ inr n ]

-- what a map makes of an element is an element of what it makes of the list
pub IsIn-map : {X Y : Type 0} (f : X → Y) (x : X) (xs : List X) → IsIn x xs → IsIn (f x) (map f xs)
IsIn-map f x [] m = absurd m
IsIn-map f x (y ∷ xs) (inl e) = inl (ap f e)
IsIn-map f x (y ∷ xs) (inr m) = inr (IsIn-map f x xs m)

-- an element of a mapped list was made of one
pub IsIn-from_map : {X Y : Type 0} (f : X → Y) (y : Y) (xs : List X) → IsIn y (map f xs) → (x : X) × (IsIn x xs) × (y ≡ f x)
IsIn-from_map f y [] m = absurd m
IsIn-from_map f y (x ∷ xs) (inl e) = (x, inl refl, e)
IsIn-from_map f y (x ∷ xs) (inr m) = let r = IsIn-from_map f y xs m in (r.0, inr r.1, r.2)

-- an element of one of the lists is one of their joined list
pub IsIn-flat_map : {X Y : Type 0} (f : X → List Y) (x : X) (y : Y) (xs : List X) → IsIn x xs → IsIn y (f x) → IsIn y (flat_map f xs)
IsIn-flat_map f x y [] m n = absurd m
IsIn-flat_map f x y (z ∷ xs) (inl e) n = IsIn-append_left y (f z) (flat_map f xs) (subst (λ w. IsIn y (f w)) e n)
IsIn-flat_map f x y (z ∷ xs) (inr m) n = IsIn-append_right y (f z) (flat_map f xs) (IsIn-flat_map f x y xs m n)

-- an element of the joined list is one of one of the lists
pub IsIn-from_flat_map : {X Y : Type 0} (f : X → List Y) (y : Y) (xs : List X) → IsIn y (flat_map f xs) → (x : X) × (IsIn x xs) × (IsIn y (f x))
IsIn-from_flat_map f y [] m = absurd m
IsIn-from_flat_map f y (x ∷ xs) m =
    elim (IsIn-append_cases y (f x) (flat_map f xs) m) [
      | inl n ↦ (x, inl refl, n)
      | inr n ↦ (let r = IsIn-from_flat_map f y xs n in (r.0, inr r.1, r.2))
    ]

-- an element that passes is one of those that pass
pub IsIn-filter : {X : Type 0} (p : X → Bool) (x : X) (xs : List X) → p x ≡ true → IsIn x xs → IsIn x (filter p xs)
IsIn-filter p x [] e m = absurd m
IsIn-filter p x (y ∷ xs) e (inl s) =
    subst (λ ys. IsIn x ys) (sym (cond-true (p y) (y ∷ filter p xs) (filter p xs) (subst (λ w. p w ≡ true) s e))) (inl s)
IsIn-filter p x (y ∷ xs) e (inr m) =
    cond_both (p y) (y ∷ filter p xs) (filter p xs) (λ ys. IsIn x ys) (λ _. inr (IsIn-filter p x xs e m)) (λ _. IsIn-filter p x xs e m)

-- one of those that pass is an element and passes
pub IsIn-from_filter : {X : Type 0} (p : X → Bool) (x : X) (xs : List X) → IsIn x (filter p xs) → (p x ≡ true) × (IsIn x xs)
IsIn-from_filter p x [] m = absurd m
IsIn-from_filter p x (y ∷ xs) m =
    elim (cases_Bool (p y)) [
      | inl e ↦ (let n : IsIn x (y ∷ filter p xs) = subst (λ ys. IsIn x ys) (cond-true (p y) (y ∷ filter p xs) (filter p xs) e) m in
          elim n [
            | inl s ↦ (subst (λ w. p w ≡ true) (sym s) e, inl s)
            | inr k ↦ (let r = IsIn-from_filter p x xs k in (r.0, inr r.1))
          ])
      | inr e ↦ (let n : IsIn x (filter p xs) = subst (λ ys. IsIn x ys) (cond-false (p y) (y ∷ filter p xs) (filter p xs) e) m in
          let r = IsIn-from_filter p x xs n in (r.0, inr r.1))
    ]

-- the numbers from a on
pub IsIn-range_with_len : (x a n : ℕ) → a ≤ x → x < a + n → IsIn x (range_with_len a n)
IsIn-range_with_len x a zero l h = absurd (omega arith)
IsIn-range_with_len x a (suc n) l h =
    elim (cases_eq x a) [ inl e ↦ inl e | inr k ↦ inr (IsIn-range_with_len x (a + 1) n (omega arith) (omega arith)) ]

-- they are within their range
pub IsIn-from_range_with_len : (x a n : ℕ) → IsIn x (range_with_len a n) → (a ≤ x) × (x < a + n)
IsIn-from_range_with_len x a zero m = absurd m
IsIn-from_range_with_len x a (suc n) (inl e) = (omega arith, omega arith)
IsIn-from_range_with_len x a (suc n) (inr m) = let r = IsIn-from_range_with_len x (a + 1) n m in (omega arith, omega arith)

-- a test that some element passes
pub list_any-from_IsIn : {X : Type 0} (p : X → Bool) (x : X) (xs : List X) → p x ≡ true → IsIn x xs → list_any p xs ≡ true
list_any-from_IsIn p x [] e m = absurd m
list_any-from_IsIn p x (y ∷ xs) e (inl s) = or_left (p y) (list_any p xs) (subst (λ w. p w ≡ true) s e)
list_any-from_IsIn p x (y ∷ xs) e (inr m) = or_right (p y) (list_any p xs) (list_any-from_IsIn p x xs e m)

-- an element that passes, where some does
pub IsIn-from_list_any : {X : Type 0} (p : X → Bool) (xs : List X) → list_any p xs ≡ true → (x : X) × (IsIn x xs) × (p x ≡ true)
IsIn-from_list_any p [] e = absurd (false≢true e)
IsIn-from_list_any p (x ∷ xs) e =
    elim (or_cases (p x) (list_any p xs) e) [
      | inl t ↦ (x, inl refl, t)
      | inr t ↦ (let r = IsIn-from_list_any p xs t in (r.0, inr r.1, r.2))
    ]

-- what holds of each element holds of an element
pub AllByRecursion-at : {X : Type 0} (P : X → Type 0) (x : X) (xs : List X) → AllByRecursion P xs → IsIn x xs → P x
AllByRecursion-at P x [] a m = absurd m
AllByRecursion-at P x (y ∷ xs) a (inl e) = subst P (sym e) a.0
AllByRecursion-at P x (y ∷ xs) a (inr m) = AllByRecursion-at P x xs a.1 m

-- what holds of an element, whichever it is, holds of each
pub AllByRecursion-from_IsIn : {X : Type 0} (P : X → Type 0) (xs : List X) → ((x : X) → IsIn x xs → P x) → AllByRecursion P xs
AllByRecursion-from_IsIn P [] h = tt
AllByRecursion-from_IsIn P (x ∷ xs) h = (h x (inl refl), AllByRecursion-from_IsIn P xs (λ y m. h y (inr m)))

-- whether a number is an element can be told
pub IsIn-cases : (a : ℕ) (xs : List ℕ) → IsIn a xs ⊎ (IsIn a xs → ⊥)
IsIn-cases a [] = inr (λ m. m)
IsIn-cases a (x ∷ xs) =
    elim (cases_eq a x) [
      | inl e ↦ inl (inl e)
      | inr absent ↦ elim (IsIn-cases a xs) [ inl m ↦ inl (inr m) | inr none ↦ inr (λ m. elim m [ inl e ↦ absent e | inr k ↦ none k ]) ]
    ]

-- a list without elements is empty
pub nil-from_IsIn : {X : Type 0} (xs : List X) → ((x : X) → IsIn x xs → ⊥) → xs ≡ []
nil-from_IsIn [] absent = refl
nil-from_IsIn (x ∷ xs) absent = absurd (absent x (inl refl))

-- two functions that agree at the elements map the list alike
pub map-same : {X Y : Type 0} (f g : X → Y) (xs : List X) → ((x : X) → IsIn x xs → f x ≡ g x) → map f xs ≡ map g xs
map-same f g [] h = refl
map-same f g (x ∷ xs) h = ap₂ (λ y ys. y ∷ ys) (h x (inl refl)) (map-same f g xs (λ z m. h z (inr m)))

-- one more number in front of numbers that are apart, among which it is not
pub IsDistinct-cons : (a : ℕ) (xs : List ℕ) → (IsIn a xs → ⊥) → IsDistinct eqb xs → IsDistinct eqb (a ∷ xs)
unfolding IsDistinct
IsDistinct-cons a xs absent d = (AllByRecursion-from_IsIn (λ y. eqb a y ≡ false) xs (λ y m. ne_eqb a y (λ e. absent (subst (λ z. IsIn z xs) (sym e) m))), d)

-- numbers that are apart are so without the first
pub IsDistinct-tail : (a : ℕ) (xs : List ℕ) → IsDistinct eqb (a ∷ xs) → IsDistinct eqb xs
unfolding IsDistinct
IsDistinct-tail a xs d = d.1

-- one number alone is apart
pub IsDistinct-single : (a : ℕ) → IsDistinct eqb (a ∷ [])
unfolding IsDistinct
IsDistinct-single a = (tt, tt)

-- at most n numbers below n are apart
pub length-IsDistinct : (xs : List ℕ) (n : ℕ) → IsDistinct eqb xs → ((q : ℕ) → IsIn q xs → q < n) → length xs ≤ n
length-IsDistinct xs n d below =
    length-le_from_distinct_below xs n d
    (λ q t. let found = IsIn-from_list_any (eqb q) xs t in below q (subst (λ z. IsIn z xs) (sym (eqb-true q found.0 found.2)) found.1))

-- what a partial function gives of an element is among what it gives of the list
pub IsIn-filter_map : {X Y : Type 0} (h : X → Option Y) (x : X) (y : Y) (xs : List X) → h x ≡ Some y → IsIn x xs → IsIn y (filter_map h xs)
IsIn-filter_map h x y [] e m = absurd m
IsIn-filter_map h x y (z ∷ xs) e (inl s) =
    subst (λ o. IsIn y (cons_option o (filter_map h xs))) (sym e ∙ ap h s) (inl refl)
IsIn-filter_map h x y (z ∷ xs) e (inr m) = IsIn-cons_option y (h z) (filter_map h xs) (IsIn-filter_map h x y xs e m)
  where
    IsIn-cons_option : {Y : Type 0} (y : Y) (o : Option Y) (ys : List Y) → IsIn y ys → IsIn y (cons_option o ys)
    IsIn-cons_option y None ys m = m
    IsIn-cons_option y (Some z) ys m = inr m

-- what a partial function gives of a list it gives of an element
pub IsIn-from_filter_map : {X Y : Type 0} (h : X → Option Y) (y : Y) (xs : List X) → IsIn y (filter_map h xs) → (x : X) × (IsIn x xs) × (h x ≡ Some y)
IsIn-from_filter_map h y [] m = absurd m
IsIn-from_filter_map h y (x ∷ xs) m =
    elim (IsIn-cons_option_cases y (h x) (filter_map h xs) m) [
      | inl e ↦ (x, inl refl, e)
      | inr n ↦ (let r = IsIn-from_filter_map h y xs n in (r.0, inr r.1, r.2))
    ]
  where
    IsIn-cons_option_cases : {Y : Type 0} (y : Y) (o : Option Y) (ys : List Y) → IsIn y (cons_option o ys) → (o ≡ Some y) ⊎ IsIn y ys
    IsIn-cons_option_cases y None ys m = inr m
    IsIn-cons_option_cases y (Some z) ys (inl e) = inl (ap (λ w. Some w) (sym e))
    IsIn-cons_option_cases y (Some z) ys (inr m) = inr m

-- what holds of each element of both lists holds of each of the whole
pub AllByRecursion-append : {X : Type 0} (P : X → Type 0) (xs ys : List X) → AllByRecursion P xs → AllByRecursion P ys → AllByRecursion P (xs ++ ys)
AllByRecursion-append P [] ys h k = k
AllByRecursion-append P (x ∷ xs) ys h k = (h.0, AllByRecursion-append P xs ys h.1 k)

-- the numbers of numbered elements are within their range
pub IsIn-from_enumerate : {X : Type 0} (a : ℕ) (p : ℕ × X) (xs : List X) → IsIn p (enumerate_from a xs) → (a ≤ p.0) × (p.0 < a + length xs)
IsIn-from_enumerate a p [] m = absurd m
IsIn-from_enumerate {X} a p (x ∷ xs) (inl e) = let f : p.0 ≡ a = ap (λ (q : ℕ × X). q.0) e in (omega arith, omega arith)
IsIn-from_enumerate a p (x ∷ xs) (inr m) = let r = IsIn-from_enumerate (a + 1) p xs m in (omega arith, omega arith)

-- a numbered element of both lists joined, whose number is below the front's length, is one of the front
pub IsIn-enumerate_front : {X : Type 0} (a : ℕ) (p : ℕ × X) (xs ys : List X) → IsIn p (enumerate_from a (xs ++ ys)) → p.0 < a + length xs → IsIn p (enumerate_from a xs)
IsIn-enumerate_front a p [] ys m h = let r = IsIn-from_enumerate a p ys m in absurd (omega arith)
IsIn-enumerate_front a p (x ∷ xs) ys (inl e) h = inl e
IsIn-enumerate_front a p (x ∷ xs) ys (inr m) h = inr (IsIn-enumerate_front (a + 1) p xs ys m (omega arith))

-- an element by recursion is one by its place
pub Contains-from_IsIn : {X : Type 0} (x : X) (xs : List X) → IsIn x xs → Contains xs x
Contains-from_IsIn x [] m = absurd m
Contains-from_IsIn x (y ∷ xs) (inl e) = (0, omega arith, sym e)
Contains-from_IsIn x (y ∷ xs) (inr m) = let r = Contains-from_IsIn x xs m in (suc r.0, omega (arith, r.1), r.2)

-- an element by its place is one by recursion
pub IsIn-from_get_or : {X : Type 0} (xs : List X) (k : ℕ) (d : X) → k < length xs → IsIn (get_or xs k d) xs
IsIn-from_get_or [] k d h = absurd (omega arith)
IsIn-from_get_or (x ∷ xs) zero d h = inl refl
IsIn-from_get_or (x ∷ xs) (suc k) d h = inr (IsIn-from_get_or xs k d (omega arith))

-- an element by its place is one by recursion
pub IsIn-from_Contains : {X : Type 0} (x : X) (xs : List X) → Contains xs x → IsIn x xs
IsIn-from_Contains x xs c = subst (λ z. IsIn z xs) c.2 (IsIn-from_get_or xs c.0 x c.1)
