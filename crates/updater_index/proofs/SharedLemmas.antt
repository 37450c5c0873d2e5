-- With how many equal bytes texts begin, one byte after another.
use Rattle.std.proofs.Common.{◌≡◌, ℕ, suc, ◌+◌, ◌<◌, ◌≤◌, Bool, true, false, cond, eqb, List, [], ◌∷◌, length, drop, get_or, refl, sym, ap, ◌∙◌, subst, arith, drop-cons, add-one}
use Rattle.std.proofs.lemmas.List.{drop_all}
use Rattle.semantics.specs.Texts.{Text}
use Rattle.updater_index.specs.Shared.{shared_len}

one_by : (b : Bool) (n : ℕ) → b ≡ true → cond b (n + 1) 0 ≡ n + 1
one_by true n e = refl
one_by false n e = cc

none_by : (b : Bool) (n : ℕ) → b ≡ false → cond b (n + 1) 0 ≡ 0
none_by true n e = cc
none_by false n e = refl

shared_none : (bs : Text) → shared_len bs [] ≡ 0
shared_none [] = refl
shared_none (b ∷ bs) = refl

-- one equal byte more
pub shared_more : (s t : Text) (n : ℕ) → n < length s → n < length t → eqb (get_or s n 0) (get_or t n 0) ≡ true →
    shared_len (drop n s) (drop n t) ≡ shared_len (drop (n + 1) s) (drop (n + 1) t) + 1
shared_more s t n hs ht e =
    rw (add-one n, drop-cons s n 0, drop-cons t n 0) (one_by (eqb (get_or s n 0) (get_or t n 0)) (shared_len (drop (suc n) s) (drop (suc n) t)) e)

-- another byte
pub shared_stop : (s t : Text) (n : ℕ) → n < length s → n < length t → eqb (get_or s n 0) (get_or t n 0) ≡ false → shared_len (drop n s) (drop n t) ≡ 0
shared_stop s t n hs ht e =
    rw (drop-cons s n 0, drop-cons t n 0) (none_by (eqb (get_or s n 0) (get_or t n 0)) (shared_len (drop (suc n) s) (drop (suc n) t)) e)

-- the end of the second text
pub shared_end : (s t : Text) (n : ℕ) → length t ≤ n → shared_len (drop n s) (drop n t) ≡ 0
shared_end s t n h = ap (λ u. shared_len (drop n s) u) (drop_all n t h) ∙ shared_none (drop n s)
