-- What is in a list by an order that tells equal elements.
use Rattle.std.proofs.Common.{◌≡◌, Bool, true, false, cond, ◌||◌, ◌↔◌, IsTrue, Contains, List, [], ◌∷◌, ◌++◌, refl, sym, ap, ◌∙◌, Ordering, Less, Equal, Greater, is_eq, inl, inr, ⊎_elim}
use Rattle.std.specs.List.{list_any}
use Rattle.std.specs.Ordering.{eq_by_cmp}
use Rattle.std.specs.Cmp.{IsTotalOrder, tied_itself, eq_by_cmp_equiv}
use Rattle.std.specs.Set.{is_member}
use Rattle.std.proofs.lemmas.Bool.{false≢true, or_left, or_right, or_cases}
use Rattle.std.proofs.lemmas.List.Folds.{list_any-append}
use Rattle.semantics.proofs.MemberLemmas.{Has, has_from_contains, contains_from_has}

is_equal : (o : Ordering) → is_eq o ≡ true → o ≡ Equal
is_equal Less e = absurd (false≢true e)
is_equal Equal e = refl
is_equal Greater e = absurd (false≢true e)

-- an element that is among them by the order is one of them
pub among_has : {A : Type 0} (cmp : A → A → Ordering) → ((x y : A) → cmp x y ≡ Equal → x ≡ y) → (xs : List A) (q : A) → is_member (eq_by_cmp cmp) xs q ≡ true → Has xs q
among_has cmp tells [] q e = absurd (false≢true e)
among_has cmp tells (x ∷ xs) q e =
    ⊎_elim
    (λ first. inl (sym (tells q x (is_equal (cmp q x) first))))
    (λ rest. inr (among_has cmp tells xs q rest))
    (or_cases (eq_by_cmp cmp q x) (is_member (eq_by_cmp cmp) xs q) e)

-- and one of them is among them by the order
pub has_among : {A : Type 0} (cmp : A → A → Ordering) → IsTotalOrder cmp → (xs : List A) (q : A) → Has xs q → is_member (eq_by_cmp cmp) xs q ≡ true
has_among cmp total [] q h = absurd h
has_among cmp total (x ∷ xs) q (inl e) =
    or_left (eq_by_cmp cmp q x) (is_member (eq_by_cmp cmp) xs q) (ap (λ m. eq_by_cmp cmp q m) e ∙ ap is_eq (tied_itself total q))
has_among cmp total (x ∷ xs) q (inr h) = or_right (eq_by_cmp cmp q x) (is_member (eq_by_cmp cmp) xs q) (has_among cmp total xs q h)

pub among_listed : {A : Type 0} (cmp : A → A → Ordering) → IsTotalOrder cmp → ((x y : A) → cmp x y ≡ Equal → x ≡ y) →
    (xs : List A) (q : A) (b : Bool) → b ≡ is_member (eq_by_cmp cmp) xs q → IsTrue b ↔ Contains xs q
among_listed cmp total tells xs q b is =
    (λ t. contains_from_has xs q (among_has cmp tells xs q (sym is ∙ t)), λ c. is ∙ has_among cmp total xs q (has_from_contains xs q c))

-- an element is among them, from whichever side each is compared with it
any_among : {A : Type 0} (cmp : A → A → Ordering) → IsTotalOrder cmp → (xs : List A) (q : A) → list_any (λ x. eq_by_cmp cmp x q) xs ≡ is_member (eq_by_cmp cmp) xs q
any_among cmp total [] q = refl
any_among cmp total (x ∷ xs) q =
    ap (λ b. b || list_any (λ y. eq_by_cmp cmp y q) xs) ((eq_by_cmp_equiv total).symm x q)
    ∙ ap (λ b. eq_by_cmp cmp q x || b) (any_among cmp total xs q)

-- so a test of each element of the list tells whether it is one of them
pub any_listed : {A : Type 0} (cmp : A → A → Ordering) → IsTotalOrder cmp → ((x y : A) → cmp x y ≡ Equal → x ≡ y) →
    (xs : List A) (q : A) (b : Bool) → b ≡ list_any (λ x. eq_by_cmp cmp x q) xs → IsTrue b ↔ Contains xs q
any_listed cmp total tells xs q b is = among_listed cmp total tells xs q b (is ∙ any_among cmp total xs q)

-- one element more
among_more : {A : Type 0} (cmp : A → A → Ordering) (xs : List A) (x q : A) → is_member (eq_by_cmp cmp) (xs ++ x ∷ []) q ≡ (is_member (eq_by_cmp cmp) xs q || (eq_by_cmp cmp q x || false))
among_more cmp xs x q = list_any-append (eq_by_cmp cmp q) xs (x ∷ [])

either : (b m : Bool) → cond b true m ≡ (m || (b || false))
either true true = refl
either true false = refl
either false true = refl
either false false = refl

-- a set of the elements of a list into which one is put has those of the list with this one more
pub put_listed : {A : Type 0} (cmp : A → A → Ordering) → IsTotalOrder cmp → (keys new xs : List A) (x q : A) →
    is_member (eq_by_cmp cmp) new q ≡ cond (is_eq (cmp x q)) true (is_member (eq_by_cmp cmp) keys q) → is_member (eq_by_cmp cmp) keys q ≡ is_member (eq_by_cmp cmp) xs q
    → is_member (eq_by_cmp cmp) new q ≡ is_member (eq_by_cmp cmp) (xs ++ x ∷ []) q
put_listed cmp total keys new xs x q put same =
    put ∙ ap (cond (is_eq (cmp x q)) true) same ∙ either (is_eq (cmp x q)) (is_member (eq_by_cmp cmp) xs q)
    ∙ ap (λ b. is_member (eq_by_cmp cmp) xs q || (b || false)) ((eq_by_cmp_equiv total).symm x q)
    ∙ sym (among_more cmp xs x q)
