-- The cycle that is shown: the first walk of the least length.
use Rattle.std.proofs.Common.{true, ◌≡◌, ℕ, zero, suc, ◌+◌, ◌<◌, ◌≤◌, inl, inr, List, [], ◌∷◌, ◌++◌, length, flat_map, Option, Some, None, MatchOption, refl, ap, subst, arith}
use Rattle.std.specs.List.{range_with_len}
use Rattle.std.proofs.lemmas.Bool.{cases_order}
use Rattle.semantics.specs.Graphs.{Edges, AreVertices, IsCycle, IsNotAfter, IsLeastCycle, HasNoCycle, walks, vertices, first_of, least_cycle}
use Rattle.semantics.specs.GraphLaws.{CycleIsLeast}
use Rattle.semantics.proofs.Members.{IsIn}
use Rattle.semantics.proofs.GraphWalks.{IsWalk, IsWalk-from_walks, IsIn-walks}
use Rattle.semantics.proofs.GraphOrder.{IsLe, AreAscending-walks, IsIn-first_of, IsLe-first_of}
use Rattle.semantics.proofs.GraphCycles.{short_walk}
use Rattle.std.proofs.Common.{Ordering, Less, Equal, Greater, nat_cmp, is_le}
use Rattle.std.specs.Ordering.{ordering_reverse}
use Rattle.std.specs.Cmp.Lexicographic.{slice_cmp}
use Rattle.std.proofs.lemmas.Bool.{false≢true}
use Rattle.std.proofs.lemmas.Cmp.{nat_list_cmp_total}
use Rattle.std.proofs.lemmas.Map.Lookups.{exact_bytes}

-- what is found first along lists: the first of the list at k, where those before it are empty
pub record IsFoundAt (f : ℕ → List (List ℕ)) (a n k : ℕ) (w : List ℕ) : Type 0 where
  pub from : a ≤ k
  pub upto : k < a + n
  pub found : first_of (f k) ≡ Some w
  pub before : (j : ℕ) → a ≤ j → j < k → f j ≡ []

-- what follows from either outcome
pub MatchOption-map : {X : Type 0} (o : Option X) (P R : Type 0) (Q S : X → Type 0) → (P → R) → ((x : X) → Q x → S x) → MatchOption o P Q → MatchOption o R S
MatchOption-map None P R Q S f g h = f h
MatchOption-map (Some x) P R Q S f g h = g x h

-- what is found from the next list on, where the first is empty
IsFoundAt-back : (f : ℕ → List (List ℕ)) (a n k : ℕ) (w : List ℕ) → f a ≡ [] → IsFoundAt f (a + 1) n k w → IsFoundAt f a (suc n) k w
IsFoundAt-back f a n k w e h =
    let low = h.from in
    let high = h.upto in
    record {
      from = omega arith;
      upto = omega arith;
      found = h.found;
      before = λ j l m. elim (cases_order a j) [ inl s ↦ subst (λ z. f z ≡ []) s e | inr o ↦ elim o [ inl lt ↦ h.before j (omega arith) m | inr gt ↦ absurd (omega arith) ] ];
    }

-- each list of a row is empty
abbrev pub AreEmpty : (ℕ → List (List ℕ)) → ℕ → ℕ → Type 0
AreEmpty f a n = (j : ℕ) → a ≤ j → j < a + n → f j ≡ []

-- one more list in front of a row
first_of-one_more : (f : ℕ → List (List ℕ)) (a n : ℕ) (xs : List (List ℕ)) → f a ≡ xs →
    MatchOption (first_of (flat_map f (range_with_len (a + 1) n))) (AreEmpty f (a + 1) n) (λ w. (k : ℕ) × IsFoundAt f (a + 1) n k w) →
    MatchOption (first_of (xs ++ flat_map f (range_with_len (a + 1) n))) (AreEmpty f a (suc n)) (λ w. (k : ℕ) × IsFoundAt f a (suc n) k w)
first_of-one_more f a n [] e h =
    MatchOption-map (first_of (flat_map f (range_with_len (a + 1) n))) (AreEmpty f (a + 1) n) (AreEmpty f a (suc n))
    (λ w. (k : ℕ) × IsFoundAt f (a + 1) n k w) (λ w. (k : ℕ) × IsFoundAt f a (suc n) k w)
    (λ empty j l m. elim (cases_order a j) [ inl s ↦ subst (λ z. f z ≡ []) s e | inr o ↦ elim o [ inl lt ↦ empty j (omega arith) (omega arith) | inr gt ↦ absurd (omega arith) ] ])
    (λ w found. (found.0, IsFoundAt-back f a n found.0 w e found.1)) h
first_of-one_more f a n (w ∷ ws) e h =
    (a, record { from = omega arith; upto = omega arith; found = ap first_of e; before = λ j l m. absurd (omega arith) })

-- the first of a row of lists is the first of the first that has one; with none each is empty
pub first_of-flat_map : (f : ℕ → List (List ℕ)) (a n : ℕ) →
    MatchOption (first_of (flat_map f (range_with_len a n))) (AreEmpty f a n) (λ w. (k : ℕ) × IsFoundAt f a n k w)
first_of-flat_map f a zero = λ j l m. absurd (omega arith)
first_of-flat_map f a (suc n) = first_of-one_more f a n (f a) refl (first_of-flat_map f (a + 1) n)

-- a cycle is a walk back to its vertex
pub IsWalk-from_cycle : (edges : Edges) (start : ℕ) (cycle : List ℕ) → IsCycle edges start cycle → IsWalk edges start (length cycle) start cycle
IsWalk-from_cycle edges start cycle c = record { begins = c.begins; leads = c.closes; count = refl }

-- a walk back to its vertex is a cycle
pub IsCycle-from_walk : (edges : Edges) (start k : ℕ) (cycle : List ℕ) → IsWalk edges start k start cycle → IsCycle edges start cycle
IsCycle-from_walk edges start k cycle w = record { begins = w.begins; closes = w.leads }

-- a cycle through a vertex shows that there is one of at most n vertices
pub short_cycle : (n : ℕ) (edges : Edges) (start : ℕ) (cycle : List ℕ) → AreVertices n edges → IsCycle edges start cycle →
    (j : ℕ) × (j < n) × (j < length cycle) × ((other : List ℕ) × IsWalk edges start (suc j) start other)
short_cycle n edges start cycle v c = short_walk n edges start (length cycle) start cycle v (IsWalk-from_cycle edges start cycle c)

-- the least walk of a length below which there are none is the least cycle
pub IsLeastCycle-from_least : (edges : Edges) (start k : ℕ) (cycle : List ℕ) → IsWalk edges start (suc k) start cycle →
    ((j : ℕ) (other : List ℕ) → j < k → IsWalk edges start (suc j) start other → ⊥) →
    ((other : List ℕ) → IsWalk edges start (suc k) start other → IsLe cycle other) → IsLeastCycle edges start cycle
IsLeastCycle-from_least edges start k cycle w shorter least =
    record {
      is_cycle = IsCycle-from_walk edges start (suc k) cycle w;
      least = λ other c. by_length edges start k cycle w.count shorter least other (IsWalk-from_cycle edges start other c);
    }
  where
    by_length : (edges : Edges) (start k : ℕ) (cycle : List ℕ) → length cycle ≡ suc k → ((j : ℕ) (other : List ℕ) → j < k → IsWalk edges start (suc j) start other → ⊥) →
        ((other : List ℕ) → IsWalk edges start (suc k) start other → IsLe cycle other) → (other : List ℕ) → IsWalk edges start (length other) start other → IsNotAfter cycle other
    by_length edges start k cycle e shorter least [] o = absurd o.begins
    by_length edges start k cycle e shorter least (x ∷ other) o =
        elim (cases_order (length other) k) [
          | inl s ↦ inr (omega arith, least (x ∷ other) (subst (λ m. IsWalk edges start (suc m) start (x ∷ other)) s o))
          | inr u ↦ elim u [ inl lt ↦ absurd (shorter (length other) (x ∷ other) lt o) | inr gt ↦ inl (omega arith) ]
        ]

-- there is a least cycle exactly where one goes through the vertex
pub cycle_is_least_lem : CycleIsLeast
unfolding least_cycle
cycle_is_least_lem n edges start v h =
    let f : ℕ → List (List ℕ) = λ more. walks n edges start (suc more) start in
    MatchOption-map (first_of (flat_map f (vertices n))) (AreEmpty f 0 n) (HasNoCycle edges start) (λ w. (k : ℕ) × IsFoundAt f 0 n k w) (IsLeastCycle edges start)
    (λ empty cycle c. none_of_length n edges start v empty cycle c)
    (λ w found. of_found n edges start v w found.0 found.1)
    (first_of-flat_map f 0 n)
  where
    none_of_length : (n : ℕ) (edges : Edges) (start : ℕ) → AreVertices n edges → AreEmpty (λ more. walks n edges start (suc more) start) 0 n → (cycle : List ℕ) → IsCycle edges start cycle → ⊥
    none_of_length n edges start v empty cycle c =
        let short = short_cycle n edges start cycle v c in
        let m = IsIn-walks n edges start (suc short.0) start short.3.0 v short.3.1 in
        let nothing : IsIn short.3.0 [] = subst (λ ws. IsIn short.3.0 ws) (empty short.0 (omega arith) (omega (arith, short.1))) m in
        nothing

    of_found : (n : ℕ) (edges : Edges) (start : ℕ) → AreVertices n edges → (w : List ℕ) (k : ℕ) → IsFoundAt (λ more. walks n edges start (suc more) start) 0 n k w → IsLeastCycle edges start w
    of_found n edges start v w k found =
        IsLeastCycle-from_least edges start k w
        (IsWalk-from_walks n edges start (suc k) start w (IsIn-first_of (walks n edges start (suc k) start) w found.found))
        (λ j other lt o.
        let m = IsIn-walks n edges start (suc j) start other v o in
        let nothing : IsIn other [] = subst (λ ws. IsIn other ws) (found.before j (omega arith) lt) m in
        nothing)
        (λ other o. IsLe-first_of (walks n edges start (suc k) start) w other (AreAscending-walks n edges start (suc k) start) found.found (IsIn-walks n edges start (suc k) start other v o))

-- lists neither of which is after the other are one
pub IsNotAfter-antisym : (walk other : List ℕ) → IsNotAfter walk other → IsNotAfter other walk → walk ≡ other
IsNotAfter-antisym walk other (inl h) (inl k) = absurd (omega arith)
IsNotAfter-antisym walk other (inl h) (inr k) = absurd (omega (arith, k.0))
IsNotAfter-antisym walk other (inr h) (inl k) = absurd (omega (arith, h.0))
IsNotAfter-antisym walk other (inr h) (inr k) =
    exact_bytes walk other (tied (slice_cmp nat_cmp walk other) (slice_cmp nat_cmp other walk) (nat_list_cmp_total.antisymm walk other) h.1 k.1)
  where
    tied : (o p : Ordering) → o ≡ ordering_reverse p → is_le o ≡ true → is_le p ≡ true → o ≡ Equal
    tied Less Less e h k = cc
    tied Less Equal e h k = cc
    tied Less Greater e h k = absurd (false≢true k)
    tied Equal p e h k = refl
    tied Greater p e h k = absurd (false≢true h)

-- at most one cycle is the least
pub IsLeastCycle-unique : (edges : Edges) (start : ℕ) (cycle other : List ℕ) → IsLeastCycle edges start cycle → IsLeastCycle edges start other → cycle ≡ other
IsLeastCycle-unique edges start cycle other c o = IsNotAfter-antisym cycle other (c.least other o.is_cycle) (o.least cycle c.is_cycle)

-- the least cycle is the one that is computed
pub least_cycle-from_IsLeastCycle : (n : ℕ) (edges : Edges) (start : ℕ) (cycle : List ℕ) → AreVertices n edges → start < n → IsLeastCycle edges start cycle →
    least_cycle n edges start ≡ Some cycle
least_cycle-from_IsLeastCycle n edges start cycle v h c =
    of_option edges start cycle (least_cycle n edges start) (cycle_is_least_lem n edges start v h) c
  where
    of_option : (edges : Edges) (start : ℕ) (cycle : List ℕ) (o : Option (List ℕ)) → MatchOption o (HasNoCycle edges start) (IsLeastCycle edges start) → IsLeastCycle edges start cycle → o ≡ Some cycle
    of_option edges start cycle None m c = absurd (m cycle c.is_cycle)
    of_option edges start cycle (Some other) m c = ap (λ w. Some w) (IsLeastCycle-unique edges start other cycle m c)

-- without a cycle through the vertex none is computed
pub least_cycle-from_HasNoCycle : (n : ℕ) (edges : Edges) (start : ℕ) → AreVertices n edges → start < n → HasNoCycle edges start → least_cycle n edges start ≡ None
least_cycle-from_HasNoCycle n edges start v h none =
    of_option edges start (least_cycle n edges start) (cycle_is_least_lem n edges start v h) none
  where
    of_option : (edges : Edges) (start : ℕ) (o : Option (List ℕ)) → MatchOption o (HasNoCycle edges start) (IsLeastCycle edges start) → HasNoCycle edges start → o ≡ None
    of_option edges start None m none = refl
    of_option edges start (Some cycle) m none = absurd (none cycle m.is_cycle)
