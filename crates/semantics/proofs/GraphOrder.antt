-- The order of walks: `walks` lists them ascending.
use Rattle.std.proofs.Common.{◌≡◌, ℕ, zero, suc, ◌+◌, ◌<◌, inl, inr, List, [], ◌∷◌, ◌++◌, map, filter, flat_map, Bool, true, Some, Less, nat_cmp, is_le, ltb, lt-ltb, refl, sym, ap, subst, ◌∙◌, arith}
use Rattle.std.specs.List.{range_with_len, AllByRecursion}
use Rattle.std.specs.Ordering.{ordering_then}
use Rattle.std.specs.Cmp.Lexicographic.{slice_cmp}
use Rattle.std.proofs.lemmas.Bool.{cond_both, cond-true}
use Rattle.std.proofs.lemmas.Cmp.{nat_cmp_total, nat_list_cmp_total, tied_itself}
use Rattle.semantics.specs.Graphs.{Edges, reads, read_by, vertices, BeginsWith, walks, first_of}
use Rattle.semantics.proofs.Members.{IsIn, IsIn-append_cases, IsIn-from_flat_map, IsIn-from_filter, IsIn-from_range_with_len, AllByRecursion-at, AllByRecursion-from_IsIn, IsIn-from_map}
use Rattle.semantics.proofs.GraphWalks.{IsWalk-from_walks}

-- the first list is not greater, compared number by number
abbrev pub IsLe : List ℕ → List ℕ → Type 0
IsLe walk other = is_le (slice_cmp nat_cmp walk other) ≡ true

-- a list is not greater than itself
pub IsLe-refl : (walk : List ℕ) → IsLe walk walk
IsLe-refl walk = ap is_le (tied_itself nat_list_cmp_total walk)

-- of lists that begin alike the rest decides
pub IsLe-cons : (a : ℕ) (walk other : List ℕ) → IsLe walk other → IsLe (a ∷ walk) (a ∷ other)
IsLe-cons a walk other h = ap (λ o. is_le (ordering_then o (slice_cmp nat_cmp walk other))) (tied_itself nat_cmp_total a) ∙ h

-- a list with a lesser first number is not greater
pub IsLe-first : (a b : ℕ) (walk other : List ℕ) → a < b → BeginsWith a walk → BeginsWith b other → IsLe walk other
IsLe-first a b [] other h s t = absurd s
IsLe-first a b (x ∷ walk) [] h s t = absurd t
IsLe-first a b (x ∷ walk) (y ∷ other) h s t =
    let less : nat_cmp x y ≡ Less = cond-true (ltb x y) Less _ (lt-ltb x y (omega arith)) in
    ap (λ o. is_le (ordering_then o (slice_cmp nat_cmp walk other))) less

-- the lists ascend
abbrev pub AreAscending : List (List ℕ) → Type 0
AreAscending [] = Unit {0}
AreAscending (walk ∷ walks) = AllByRecursion (IsLe walk) walks × AreAscending walks

-- the numbers rise
abbrev pub AreRising : List ℕ → Type 0
AreRising [] = Unit {0}
AreRising (a ∷ as') = AllByRecursion (λ b. a < b) as' × AreRising as'

-- numbers in a row rise
pub AreRising-range_with_len : (a n : ℕ) → AreRising (range_with_len a n)
AreRising-range_with_len a zero = tt
AreRising-range_with_len a (suc n) = (
  AllByRecursion-from_IsIn (λ b. a < b) (range_with_len (a + 1) n) (λ b m. let r = IsIn-from_range_with_len b (a + 1) n m in omega arith),
  AreRising-range_with_len (a + 1) n,
)

-- those of rising numbers that pass rise
pub AreRising-filter : (p : ℕ → Bool) (xs : List ℕ) → AreRising xs → AreRising (filter p xs)
AreRising-filter p [] h = tt
AreRising-filter p (x ∷ xs) h =
    cond_both (p x) (x ∷ filter p xs) (filter p xs) (λ ys. AreRising ys)
    (λ _. (AllByRecursion-from_IsIn (λ b. x < b) (filter p xs) (λ b m. AllByRecursion-at (λ c. x < c) b xs h.0 (IsIn-from_filter p b xs m).1), AreRising-filter p xs h.1))
    (λ _. AreRising-filter p xs h.1)

-- the vertices that are read rise
pub AreRising-read_by : (n : ℕ) (edges : Edges) (a : ℕ) → AreRising (read_by n edges a)
AreRising-read_by n edges a = AreRising-filter (reads edges a) (vertices n) (AreRising-range_with_len 0 n)

-- lists that ascend, and then lists that are not less and ascend
pub AreAscending-append : (xs ys : List (List ℕ)) → AreAscending xs → AreAscending ys → ((x y : List ℕ) → IsIn x xs → IsIn y ys → IsLe x y) → AreAscending (xs ++ ys)
AreAscending-append [] ys h k le = k
AreAscending-append (x ∷ xs) ys h k le = (
  AllByRecursion-from_IsIn (IsLe x) (xs ++ ys)
      (λ y m. elim (IsIn-append_cases y xs ys m) [ inl n ↦ AllByRecursion-at (IsLe x) y xs h.0 n | inr n ↦ le x y (inl refl) n ]),
  AreAscending-append xs ys h.1 k (λ v w m n. le v w (inr m) n),
)

-- one number in front of each of lists that ascend
pub AreAscending-map : (a : ℕ) (ws : List (List ℕ)) → AreAscending ws → AreAscending (map (λ walk. a ∷ walk) ws)
AreAscending-map a [] h = tt
AreAscending-map a (w ∷ ws) h = (
  AllByRecursion-from_IsIn (IsLe (a ∷ w)) (map (λ walk. a ∷ walk) ws)
      (λ v m. let r = IsIn-from_map (λ walk. a ∷ walk) v ws m in
      subst (λ z. IsLe (a ∷ w) z) (sym r.2) (IsLe-cons a w r.0 (AllByRecursion-at (IsLe w) r.0 ws h.0 r.1))),
  AreAscending-map a ws h.1,
)

-- lists that ascend for each of rising numbers, with which they begin
pub AreAscending-flat_map : (f : ℕ → List (List ℕ)) (bs : List ℕ) → ((b : ℕ) → AreAscending (f b)) → ((b : ℕ) (w : List ℕ) → IsIn w (f b) → BeginsWith b w) →
    AreRising bs → AreAscending (flat_map f bs)
AreAscending-flat_map f [] asc beg rise = tt
AreAscending-flat_map f (b ∷ bs) asc beg rise =
    AreAscending-append (f b) (flat_map f bs) (asc b) (AreAscending-flat_map f bs asc beg rise.1)
    (λ x y m n. let r = IsIn-from_flat_map f y bs n in
    IsLe-first b r.0 x y (AllByRecursion-at (λ c. b < c) r.0 bs rise.0 r.1) (beg b x m) (beg r.0 y r.2))

-- the walks of so many vertices ascend
pub AreAscending-walks : (n : ℕ) (edges : Edges) (goal k a : ℕ) → AreAscending (walks n edges goal k a)
AreAscending-walks n edges goal zero a = tt
AreAscending-walks n edges goal (suc zero) a =
    cond_both (reads edges a goal) ((a ∷ []) ∷ []) [] (λ ws. AreAscending ws) (λ _. (tt, tt)) (λ _. tt)
AreAscending-walks n edges goal (suc (suc more)) a =
    AreAscending-map a (flat_map (walks n edges goal (suc more)) (read_by n edges a))
    (AreAscending-flat_map (walks n edges goal (suc more)) (read_by n edges a) (AreAscending-walks n edges goal (suc more))
    (λ b w m. (IsWalk-from_walks n edges goal (suc more) b w m).begins) (AreRising-read_by n edges a))

-- the first is one of the lists
pub IsIn-first_of : (ws : List (List ℕ)) (w : List ℕ) → first_of ws ≡ Some w → IsIn w ws
IsIn-first_of [] w e = cc
IsIn-first_of (v ∷ ws) w e = let s : w ≡ v = cc in inl s

-- the first of lists that ascend is not greater than any
pub IsLe-first_of : (ws : List (List ℕ)) (w v : List ℕ) → AreAscending ws → first_of ws ≡ Some w → IsIn v ws → IsLe w v
IsLe-first_of [] w v h e m = absurd m
IsLe-first_of (x ∷ ws) w v h e (inl s) = let t : w ≡ v = cc in subst (λ z. IsLe w z) t (IsLe-refl w)
IsLe-first_of (x ∷ ws) w v h e (inr m) = let t : x ≡ w = cc in subst (λ z. IsLe z v) t (AllByRecursion-at (IsLe x) v ws h.0 m)
