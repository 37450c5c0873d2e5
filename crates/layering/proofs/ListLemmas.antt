-- Lists that are filtered, and tests on options.
use Rattle.std.proofs.Common.{◌≡◌, ℕ, zero, suc, ◌<◌, Bool, true, false, cond, List, [], ◌∷◌, filter, find, slice_get, Option, Some, None, is_some, refl, sym, ap, ◌∙◌, inl, inr, arith}
use Rattle.std.specs.List.{AllByRecursion}
use Rattle.std.proofs.lemmas.Bool.{cond-true, cond-false, false≢true}
use Rattle.std.proofs.lemmas.Option.{none-some, same_Some}
use Rattle.semantics.proofs.MemberLemmas.{Has}

-- ---- options

-- what is there is something
pub something : {A : Type 0} (o : Option A) → is_some o ≡ true → (x : A) × (o ≡ Some x)
something None h = absurd (false≢true h)
something (Some x) h = (x, refl)

-- what is not there is nothing
pub nothing_from : {A : Type 0} (o : Option A) → (is_some o ≡ true → ⊥) → o ≡ None
nothing_from None h = refl
nothing_from (Some x) h = absurd (h refl)

-- where the test fails there is nothing
pub none_from_test : {A : Type 0} (o : Option A) → is_some o ≡ false → o ≡ None
none_from_test None h = refl
none_from_test (Some x) h = absurd (false≢true (sym h))

-- ---- filters

-- where all pass, a filter keeps all
pub filter_all : {A : Type 0} (test : A → Bool) (xs : List A) → AllByRecursion (λ x. test x ≡ true) xs → filter test xs ≡ xs
filter_all test [] h = refl
filter_all test (x ∷ xs) h = cond-true (test x) (x ∷ filter test xs) (filter test xs) h.0 ∙ ap (λ ys. x ∷ ys) (filter_all test xs h.1)

-- where none pass, it keeps none
pub filter_none : {A : Type 0} (test : A → Bool) (xs : List A) → AllByRecursion (λ x. test x ≡ false) xs → filter test xs ≡ []
filter_none test [] h = refl
filter_none test (x ∷ xs) h = cond-false (test x) (x ∷ filter test xs) (filter test xs) h.0 ∙ filter_none test xs h.1

-- what holds of those that pass, and of each that does not, holds of all
pub all_from_filter : {A : Type 0} (P : A → Type 0) (test : A → Bool) (xs : List A) → AllByRecursion P (filter test xs) → ((x : A) → Has xs x → test x ≡ false → P x) → AllByRecursion P xs
all_from_filter P test [] h other = tt
all_from_filter P test (x ∷ xs) h other =
    elim (test x) as (λ b. test x ≡ b → AllByRecursion P (cond b (x ∷ filter test xs) (filter test xs)) → AllByRecursion P (x ∷ xs)) [
      | true ↦ λ e g. (g.0, all_from_filter P test xs g.1 (λ y m. other y (inr m)))
      | false ↦ λ e g. (other x (inl refl) e, all_from_filter P test xs g (λ y m. other y (inr m)))
    ] refl h

-- the first element that passes is found
pub find_first : {A : Type 0} (test : A → Bool) (xs : List A) (i : ℕ) (x : A) → slice_get xs i ≡ Some x → test x ≡ true → ((k : ℕ) (y : A) → k < i → slice_get xs k ≡ Some y → test y ≡ false) → find test xs ≡ Some x
find_first test [] i x at passes earlier = absurd (none-some x at)
find_first test (y ∷ ys) zero x at passes earlier =
    let e = same_Some y x at in
    cond-true (test y) (Some y) (find test ys) (ap test e ∙ passes) ∙ ap (λ z. Some z) e
find_first test (y ∷ ys) (suc i) x at passes earlier =
    cond-false (test y) (Some y) (find test ys) (earlier 0 y (omega arith) refl)
    ∙ find_first test ys i x at passes (λ k z less there. earlier (suc k) z (omega arith) there)
