-- What is found in a list that is gone through from its front.
use Rattle.std.proofs.Common.{◌≡◌, ℕ, zero, suc, ◌+◌, ◌<◌, List, [], ◌∷◌, length, take, get_or, Bool, true, false, cond, Option, Some, None, find, refl, sym, ap, ◌∙◌, arith}
use Rattle.std.specs.Option.{option_or}
use Rattle.std.proofs.lemmas.List.{take_more}
use Rattle.std.proofs.lemmas.List.Folds.{find-append}

-- where neither of two has anything there is nothing
nothing_in_both : {X : Type 0} (o : Option X) (b : Bool) (x : X) → o ≡ None → b ≡ false → option_or o (cond b (Some x) None) ≡ None
nothing_in_both None true x h e = cc
nothing_in_both None false x h e = refl
nothing_in_both (Some y) b x h e = cc

-- nothing is found in one element more, where that fails the test
pub find_more : {X : Type 0} (p : X → Bool) (xs : List X) (i : ℕ) (d : X) → find p (take i xs) ≡ None → i < length xs → p (get_or xs i d) ≡ false → find p (take (i + 1) xs) ≡ None
find_more p xs i d none h e =
    ap (λ ys. find p ys) (take_more xs i d h) ∙ find-append p (take i xs) (get_or xs i d ∷ []) ∙ nothing_in_both (find p (take i xs)) (p (get_or xs i d)) (get_or xs i d) none e

-- the first element was passed over, and what follows is found
later : {X : Type 0} (b : Bool) (x : X) (o r : Option X) (y : X) → cond b (Some x) o ≡ None → (o ≡ None → r ≡ Some y) → cond b (Some x) r ≡ Some y
later true x o r y h f = cc
later false x o r y h f = f h

-- the first element that passes the test is found
pub find_at : {X : Type 0} (p : X → Bool) (xs : List X) (i : ℕ) (d : X) → find p (take i xs) ≡ None → i < length xs → p (get_or xs i d) ≡ true → find p xs ≡ Some (get_or xs i d)
find_at p [] i d none h e = absurd (omega arith)
find_at p (x ∷ xs) zero d none h e = ap (λ b. cond b (Some x) (find p xs)) e
find_at p (x ∷ xs) (suc i) d none h e =
    later (p x) x (find p (take i xs)) (find p xs) (get_or xs i d) none (λ n. find_at p xs i d n (omega arith) e)

-- at the step of a loop: the element is found
pub found_here : {X : Type 0} (p : X → Bool) (xs : List X) (i : ℕ) (x : X) → find p (take i xs) ≡ None → i < length xs → x ≡ get_or xs i x → p x ≡ true → find p xs ≡ Some x
found_here p xs i x none h at e = find_at p xs i x none h (ap p (sym at) ∙ e) ∙ ap (λ y. Some y) (sym at)

-- at the step of a loop: nothing is found yet
pub found_none : {X : Type 0} (p : X → Bool) (xs : List X) (i : ℕ) (x : X) → find p (take i xs) ≡ None → i < length xs → x ≡ get_or xs i x → p x ≡ false → find p (take (i + 1) xs) ≡ None
found_none p xs i x none h at e = find_more p xs i x none h (ap p (sym at) ∙ e)
