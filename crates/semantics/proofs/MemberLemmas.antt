-- What stands in a list, by recursion, and where the elements of a list that is made come from.
use Rattle.std.proofs.Common.{◌≡◌, ◌⊎◌, ℕ, zero, suc, ◌<◌, Bool, true, false, cond, List, [], ◌∷◌, ◌++◌, length, get_or, map, filter, flat_map, filter_map, Contains, Option, Some, None, refl, sym, ap, ◌∙◌, subst, inl, inr, ⊎_elim, arith}
use Rattle.std.specs.List.{list_any, list_all}
use Rattle.std.proofs.lemmas.Bool.{or_left, or_right, or_cases, and_parts, and_from, false≢true}

-- x is an element of the list
abbrev pub Has : {A : Type 0} → List A → A → Type 0
Has [] x = ⊥
Has (y ∷ ys) x = (y ≡ x) ⊎ Has ys x

-- ---- beside the form by places

-- the element at a place stands in the list
contains_by : {A : Type 0} (xs : List A) (x d : A) (k : ℕ) → k < length xs → get_or xs k d ≡ x → Has xs x
contains_by [] x d k h e = absurd (omega arith)
contains_by (y ∷ ys) x d zero h e = inl e
contains_by (y ∷ ys) x d (suc k) h e = inr (contains_by ys x d k (omega arith) e)

-- from the form by places
pub has_from_contains : {A : Type 0} (xs : List A) (x : A) → Contains xs x → Has xs x
has_from_contains xs x c = contains_by xs x x c.0 c.1 c.2

-- to the form by places
pub contains_from_has : {A : Type 0} (xs : List A) (x : A) → Has xs x → Contains xs x
contains_from_has [] x h = absurd h
contains_from_has (y ∷ ys) x (inl e) = (0, omega arith, e)
contains_from_has (y ∷ ys) x (inr h) = let c = contains_from_has ys x h in (suc c.0, omega (arith, c.1), c.2)

-- ---- lists that are made

-- an element of the first list stands in both
pub has_append_left : {A : Type 0} (xs ys : List A) (x : A) → Has xs x → Has (xs ++ ys) x
has_append_left [] ys x h = absurd h
has_append_left (y ∷ xs) ys x (inl e) = inl e
has_append_left (y ∷ xs) ys x (inr h) = inr (has_append_left xs ys x h)

-- an element of the second list stands in both
pub has_append_right : {A : Type 0} (xs ys : List A) (x : A) → Has ys x → Has (xs ++ ys) x
has_append_right [] ys x h = h
has_append_right (y ∷ xs) ys x h = inr (has_append_right xs ys x h)

-- an element of both stands in one
pub has_append_cases : {A : Type 0} (xs ys : List A) (x : A) → Has (xs ++ ys) x → Has xs x ⊎ Has ys x
has_append_cases [] ys x h = inr h
has_append_cases (y ∷ xs) ys x (inl e) = inl (inl e)
has_append_cases (y ∷ xs) ys x (inr h) = ⊎_elim (λ a. inl (inr a)) (λ b. inr b) (has_append_cases xs ys x h)

-- the first element of a filter
kept : {A : Type 0} (test : A → Bool) (y : A) (ys zs : List A) (x : A) (b : Bool) → test y ≡ b → (Has zs x → (test x ≡ true) × Has ys x) → Has (cond b (y ∷ zs) zs) x → (test x ≡ true) × Has (y ∷ ys) x
kept test y ys zs x true e rest (inl q) = (ap test (sym q) ∙ e, inl q)
kept test y ys zs x true e rest (inr h) = let r = rest h in (r.0, inr r.1)
kept test y ys zs x false e rest h = let r = rest h in (r.0, inr r.1)

-- what a filter keeps passes the test, and stood in the list
pub has_filter : {A : Type 0} (test : A → Bool) (xs : List A) (x : A) → Has (filter test xs) x → (test x ≡ true) × Has xs x
has_filter test [] x h = absurd h
has_filter test (y ∷ ys) x h = kept test y ys (filter test ys) x (test y) refl (has_filter test ys x) h

-- the first element of a filter, or one behind it
keep : {A : Type 0} (test : A → Bool) (y : A) (zs : List A) (x : A) (b : Bool) → test y ≡ b → test x ≡ true → (y ≡ x) ⊎ Has zs x → Has (cond b (y ∷ zs) zs) x
keep test y zs x true e t h = h
keep test y zs x false e t (inl q) = absurd (false≢true (sym e ∙ ap test q ∙ t))
keep test y zs x false e t (inr h) = h

-- what passes is kept
pub has_filtered : {A : Type 0} (test : A → Bool) (xs : List A) (x : A) → test x ≡ true → Has xs x → Has (filter test xs) x
has_filtered test [] x t h = absurd h
has_filtered test (y ∷ ys) x t (inl q) = keep test y (filter test ys) x (test y) refl t (inl q)
has_filtered test (y ∷ ys) x t (inr h) = keep test y (filter test ys) x (test y) refl t (inr (has_filtered test ys x t h))

-- an element of a `map` comes from one of the list
pub has_map : {A B : Type 0} (f : A → B) (xs : List A) (z : B) → Has (map f xs) z → (x : A) × Has xs x × (f x ≡ z)
has_map f [] z h = absurd h
has_map f (y ∷ ys) z (inl e) = (y, inl refl, e)
has_map f (y ∷ ys) z (inr h) = let r = has_map f ys z h in (r.0, inr r.1, r.2)

-- each element of the list gives one of the `map`
pub has_mapped : {A B : Type 0} (f : A → B) (xs : List A) (x : A) → Has xs x → Has (map f xs) (f x)
has_mapped f [] x h = absurd h
has_mapped f (y ∷ ys) x (inl e) = inl (ap f e)
has_mapped f (y ∷ ys) x (inr h) = inr (has_mapped f ys x h)

-- the first element of a `filter_map`
made_by : {A B : Type 0} (h : A → Option B) (y : A) (ys : List A) (z : B) (o : Option B) → h y ≡ o → (Has (filter_map h ys) z → (x : A) × Has ys x × (h x ≡ Some z)) → Has (filter_map (λ (p : Option B). p) (o ∷ []) ++ filter_map h ys) z → (x : A) × Has (y ∷ ys) x × (h x ≡ Some z)
made_by h y ys z None e rest g = let r = rest g in (r.0, inr r.1, r.2)
made_by h y ys z (Some w) e rest (inl q) = (y, inl refl, e ∙ ap Some q)
made_by h y ys z (Some w) e rest (inr g) = let r = rest g in (r.0, inr r.1, r.2)

-- a `filter_map` is what the first element gives, and then the others
cons_made : {A B : Type 0} (h : A → Option B) (y : A) (ys : List A) (o : Option B) → h y ≡ o → filter_map h (y ∷ ys) ≡ filter_map (λ (p : Option B). p) (o ∷ []) ++ filter_map h ys
cons_made h y ys None e = rw e
cons_made h y ys (Some w) e = rw e

-- an element of a `filter_map` comes from one of the list
pub has_filter_map : {A B : Type 0} (h : A → Option B) (xs : List A) (z : B) → Has (filter_map h xs) z → (x : A) × Has xs x × (h x ≡ Some z)
has_filter_map h [] z g = absurd g
has_filter_map h (y ∷ ys) z g = made_by h y ys z (h y) refl (has_filter_map h ys z) (subst (λ l. Has l z) (cons_made h y ys (h y) refl) g)

-- an element that gives something gives one of the `filter_map`
pub has_filter_mapped : {A B : Type 0} (h : A → Option B) (xs : List A) (x : A) (z : B) → h x ≡ Some z → Has xs x → Has (filter_map h xs) z
has_filter_mapped h [] x z e g = absurd g
has_filter_mapped h (y ∷ ys) x z e (inl q) = subst (λ l. Has l z) (sym (cons_made h y ys (Some z) (ap h q ∙ e))) (inl refl)
has_filter_mapped h (y ∷ ys) x z e (inr g) = subst (λ l. Has l z) (sym (cons_made h y ys (h y) refl)) (has_append_right (filter_map (λ p. p) (h y ∷ [])) (filter_map h ys) z (has_filter_mapped h ys x z e g))

-- an element of a `flat_map` comes from one of the list
pub has_flat_map : {A B : Type 0} (f : A → List B) (xs : List A) (z : B) → Has (flat_map f xs) z → (x : A) × Has xs x × Has (f x) z
has_flat_map f [] z h = absurd h
has_flat_map f (y ∷ ys) z h = ⊎_elim
    (λ (a : Has (f y) z). (y, inl refl, a))
    (λ (b : Has (flat_map f ys) z). let r = has_flat_map f ys z b in (r.0, inr r.1, r.2))
    (has_append_cases (f y) (flat_map f ys) z h)

-- each element of a part is one of the `flat_map`
pub has_flat_mapped : {A B : Type 0} (f : A → List B) (xs : List A) (x : A) (z : B) → Has xs x → Has (f x) z → Has (flat_map f xs) z
has_flat_mapped f [] x z h g = absurd h
has_flat_mapped f (y ∷ ys) x z (inl e) g = has_append_left (f y) (flat_map f ys) z (subst (λ w. Has (f w) z) (sym e) g)
has_flat_mapped f (y ∷ ys) x z (inr h) g = has_append_right (f y) (flat_map f ys) z (has_flat_mapped f ys x z h g)

-- ---- tests of all elements

-- an element that passes shows that some element does
pub any_from_has : {A : Type 0} (test : A → Bool) (xs : List A) (x : A) → Has xs x → test x ≡ true → list_any test xs ≡ true
any_from_has test [] x h t = absurd h
any_from_has test (y ∷ ys) x (inl e) t = or_left (test y) (list_any test ys) (ap test e ∙ t)
any_from_has test (y ∷ ys) x (inr h) t = or_right (test y) (list_any test ys) (any_from_has test ys x h t)

-- where some element passes, there is one
pub has_from_any : {A : Type 0} (test : A → Bool) (xs : List A) → list_any test xs ≡ true → (x : A) × Has xs x × (test x ≡ true)
has_from_any test [] h = absurd (false≢true h)
has_from_any test (y ∷ ys) h = ⊎_elim
    (λ (a : test y ≡ true). (y, inl refl, a))
    (λ (b : list_any test ys ≡ true). let r = has_from_any test ys b in (r.0, inr r.1, r.2))
    (or_cases (test y) (list_any test ys) h)

-- where all elements pass, one does
pub passes_from_all : {A : Type 0} (test : A → Bool) (xs : List A) (x : A) → list_all test xs ≡ true → Has xs x → test x ≡ true
passes_from_all test [] x h g = absurd g
passes_from_all test (y ∷ ys) x h (inl e) = ap test (sym e) ∙ (and_parts (test y) (list_all test ys) h).0
passes_from_all test (y ∷ ys) x h (inr g) = passes_from_all test ys x (and_parts (test y) (list_all test ys) h).1 g

-- where each element passes, all do
pub all_from_each : {A : Type 0} (test : A → Bool) (xs : List A) → ((x : A) → Has xs x → test x ≡ true) → list_all test xs ≡ true
all_from_each test [] h = refl
all_from_each test (y ∷ ys) h = and_from (test y) (list_all test ys) (h y (inl refl)) (all_from_each test ys (λ x g. h x (inr g)))
