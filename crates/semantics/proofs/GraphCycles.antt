-- Cycles: how trails that repeat a vertex close, and how walks are made short.
use Rattle.std.proofs.Common.{◌≡◌, ℕ, suc, ◌<◌, ◌≤◌, ◌⊎◌, inl, inr, List, [], ◌∷◌, ◌++◌, length, true, eqb, refl, sym, subst, arith}
use Rattle.std.specs.List.{IsDistinct}
use Rattle.semantics.specs.Graphs.{Edges, reads, AreVertices, IsWalkTo, BeginsWith, IsCycle, IsAcyclic}
use Rattle.semantics.proofs.Members.{IsIn, IsIn-cases, IsDistinct-cons, IsDistinct-tail, IsDistinct-single, length-IsDistinct}
use Rattle.semantics.proofs.GraphReadings.{reads-below}
use Rattle.semantics.proofs.GraphWalks.{IsWalk}

-- a walk backwards: the first of the list reads the vertex, and each other one reads the one before it
abbrev pub IsTrail : Edges → ℕ → List ℕ → Type 0
IsTrail edges x [] = Unit {0}
IsTrail edges x (y ∷ ys) = (reads edges y x ≡ true) × IsTrail edges y ys

-- a trail whose end leads to one of its vertices has a cycle through that one
pub cycle-from_trail : (edges : Edges) (b x : ℕ) (rest ys : List ℕ) → IsWalkTo edges b (x ∷ rest) → IsTrail edges x ys → IsIn b (x ∷ ys) →
    (cycle : List ℕ) × IsCycle edges b cycle
cycle-from_trail edges b x rest [] l t (inl e) = (x ∷ rest, record { begins = e; closes = l })
cycle-from_trail edges b x rest [] l t (inr m) = absurd m
cycle-from_trail edges b x rest (y ∷ ys) l t (inl e) = (x ∷ rest, record { begins = e; closes = l })
cycle-from_trail edges b x rest (y ∷ ys) l t (inr m) = cycle-from_trail edges b y (x ∷ rest) ys (t.0, l) t.1 m

-- a vertex that the end of a trail reads is none of the trail, where there is no cycle
pub fresh-from_trail : (edges : Edges) (b x : ℕ) (ys : List ℕ) → IsAcyclic edges → reads edges x b ≡ true → IsTrail edges x ys → IsIn b (x ∷ ys) → ⊥
fresh-from_trail edges b x ys acyclic r t m = let found = cycle-from_trail edges b x [] ys r t m in acyclic b found.0 found.1

-- the vertices of a walk are vertices, since each reads one
pub IsWalkTo-below : (n : ℕ) (edges : Edges) (goal : ℕ) (walk : List ℕ) → AreVertices n edges → IsWalkTo edges goal walk → (q : ℕ) → IsIn q walk → q < n
IsWalkTo-below n edges goal [] v l q m = absurd m
IsWalkTo-below n edges goal (a ∷ []) v l q (inl e) = let r = reads-below n edges a goal v l in omega arith
IsWalkTo-below n edges goal (a ∷ []) v l q (inr m) = absurd m
IsWalkTo-below n edges goal (a ∷ b ∷ walk) v l q (inl e) = let r = reads-below n edges a b v l.0 in omega arith
IsWalkTo-below n edges goal (a ∷ b ∷ walk) v l q (inr m) = IsWalkTo-below n edges goal (b ∷ walk) v l.1 q m

-- a walk without repeats, of at most so many vertices
pub record IsShort (edges : Edges) (goal k a : ℕ) (walk : List ℕ) : Type 0 where
  pub begins : BeginsWith a walk
  pub leads : IsWalkTo edges goal walk
  pub distinct : IsDistinct eqb walk
  pub count : length walk ≤ k

-- the rest of a walk from one of its vertices on
pub IsShort-from_member : (edges : Edges) (goal a : ℕ) (walk : List ℕ) → IsWalkTo edges goal walk → IsDistinct eqb walk → IsIn a walk →
    (rest : List ℕ) × IsShort edges goal (length walk) a rest
IsShort-from_member edges goal a [] l d m = absurd m
IsShort-from_member edges goal a (x ∷ walk) l d (inl e) = (x ∷ walk, record { begins = e; leads = l; distinct = d; count = omega arith })
IsShort-from_member edges goal a (x ∷ []) l d (inr m) = absurd m
IsShort-from_member edges goal a (x ∷ y ∷ walk) l d (inr m) =
    let found = IsShort-from_member edges goal a (y ∷ walk) l.1 (IsDistinct-tail x (y ∷ walk) d) m in
    (found.0, record { begins = found.1.begins; leads = found.1.leads; distinct = found.1.distinct; count = omega (arith, found.1.count) })

-- a vertex before a walk: the walk is cut where the vertex is one of it
pub IsShort-cons : (edges : Edges) (goal k a b : ℕ) (walk : List ℕ) → reads edges a b ≡ true → IsShort edges goal k b walk →
    (IsIn a walk) ⊎ (IsIn a walk → ⊥) → (other : List ℕ) × IsShort edges goal (suc k) a other
IsShort-cons edges goal k a b walk r s (inl m) =
    let found = IsShort-from_member edges goal a walk s.leads s.distinct m in
    (found.0, record { begins = found.1.begins; leads = found.1.leads; distinct = found.1.distinct; count = omega (arith, found.1.count, s.count) })
IsShort-cons edges goal k a b [] r s (inr absent) = absurd s.begins
IsShort-cons edges goal k a b (c ∷ walk) r s (inr absent) = (
  a ∷ c ∷ walk,
  record {
    begins = refl;
    leads = (subst (λ z. reads edges a z ≡ true) s.begins r, s.leads);
    distinct = IsDistinct-cons a (c ∷ walk) absent s.distinct;
    count = omega (arith, s.count);
  },
)

-- each walk has one without repeats beside it that is not longer
pub IsShort-from_walk : (edges : Edges) (goal a : ℕ) (rest : List ℕ) → IsWalkTo edges goal (a ∷ rest) → (walk : List ℕ) × IsShort edges goal (suc (length rest)) a walk
IsShort-from_walk edges goal a [] l = (a ∷ [], record { begins = refl; leads = l; distinct = IsDistinct-single a; count = omega arith })
IsShort-from_walk edges goal a (b ∷ rest) l =
    let tail = IsShort-from_walk edges goal b rest l.1 in
    IsShort-cons edges goal (suc (length rest)) a b tail.0 l.0 tail.1 (IsIn-cases a tail.0)

-- a walk without repeats has at most n vertices
pub length-IsShort : (n : ℕ) (edges : Edges) (goal k a : ℕ) (walk : List ℕ) → AreVertices n edges → IsShort edges goal k a walk → length walk ≤ n
length-IsShort n edges goal k a walk v s = length-IsDistinct walk n s.distinct (IsWalkTo-below n edges goal walk v s.leads)

-- from a vertex with a walk to the goal there is a walk of at most n vertices
pub short_walk : (n : ℕ) (edges : Edges) (goal k a : ℕ) (walk : List ℕ) → AreVertices n edges → IsWalk edges goal k a walk →
    (j : ℕ) × (j < n) × (j < k) × ((other : List ℕ) × IsWalk edges goal (suc j) a other)
short_walk n edges goal k a walk v w = of_list n edges goal k a walk v w.begins w.leads w.count
  where
    counted : (n k : ℕ) (edges : Edges) (goal a : ℕ) (walk : List ℕ) → BeginsWith a walk → IsWalkTo edges goal walk → length walk ≤ n → length walk ≤ k →
        (j : ℕ) × (j < n) × (j < k) × ((other : List ℕ) × IsWalk edges goal (suc j) a other)
    counted n k edges goal a [] b l c d = absurd b
    counted n k edges goal a (x ∷ walk) b l c d = (length walk, omega arith, omega arith, (x ∷ walk, record { begins = b; leads = l; count = refl }))

    of_list : (n : ℕ) (edges : Edges) (goal k a : ℕ) (walk : List ℕ) → AreVertices n edges → BeginsWith a walk → IsWalkTo edges goal walk → length walk ≡ k →
        (j : ℕ) × (j < n) × (j < k) × ((other : List ℕ) × IsWalk edges goal (suc j) a other)
    of_list n edges goal k a [] v b l c = absurd b
    of_list n edges goal k a (x ∷ walk) v b l c =
        let found = IsShort-from_walk edges goal x walk l in
        counted n k edges goal a found.0 (subst (λ z. BeginsWith z found.0) (sym b) found.1.begins) found.1.leads
        (length-IsShort n edges goal (suc (length walk)) x found.0 v found.1) (omega (arith, found.1.count))

-- the front of a walk up to one of its later vertices
pub IsWalkTo-front : (edges : Edges) (goal a x : ℕ) (rest : List ℕ) → IsWalkTo edges goal (x ∷ rest) → IsIn a rest → (front : List ℕ) × IsWalkTo edges a (x ∷ front)
IsWalkTo-front edges goal a x [] l m = absurd m
IsWalkTo-front edges goal a x (y ∷ rest) l (inl e) = ([], subst (λ z. reads edges x z ≡ true) (sym e) l.0)
IsWalkTo-front edges goal a x (y ∷ rest) l (inr m) =
    let found = IsWalkTo-front edges goal a y rest l.1 m in (y ∷ found.0, (l.0, found.1))

-- the rest of a walk from one of its vertices on, after the front that leads to it
pub IsWalkTo-back : (edges : Edges) (goal a : ℕ) (walk : List ℕ) → IsWalkTo edges goal walk → IsIn a walk → (rest : List ℕ) × IsWalkTo edges goal (a ∷ rest)
IsWalkTo-back edges goal a [] l m = absurd m
IsWalkTo-back edges goal a (x ∷ walk) l (inl e) = (walk, subst (λ z. IsWalkTo edges goal (z ∷ walk)) (sym e) l)
IsWalkTo-back edges goal a (x ∷ []) l (inr m) = absurd m
IsWalkTo-back edges goal a (x ∷ y ∷ walk) l (inr m) = IsWalkTo-back edges goal a (y ∷ walk) l.1 m

-- a walk that leads to another goal by a walk from there
pub IsWalkTo-append : (edges : Edges) (goal a : ℕ) (walk rest : List ℕ) → IsWalkTo edges a walk → IsWalkTo edges goal (a ∷ rest) → IsWalkTo edges goal (walk ++ (a ∷ rest))
IsWalkTo-append edges goal a [] rest l k = absurd l
IsWalkTo-append edges goal a (x ∷ []) rest l k = (l, k)
IsWalkTo-append edges goal a (x ∷ y ∷ walk) rest l k = (l.0, IsWalkTo-append edges goal a (y ∷ walk) rest l.1 k)

-- without a cycle the vertices of a walk are distinct
pub IsDistinct-from_walk : (edges : Edges) (goal : ℕ) (walk : List ℕ) → IsAcyclic edges → IsWalkTo edges goal walk → IsDistinct eqb walk
IsDistinct-from_walk edges goal [] acyclic l = absurd l
IsDistinct-from_walk edges goal (a ∷ []) acyclic l = IsDistinct-single a
IsDistinct-from_walk edges goal (a ∷ b ∷ walk) acyclic l =
    IsDistinct-cons a (b ∷ walk)
    (λ m. let front = IsWalkTo-front edges goal a a (b ∷ walk) l m in acyclic a (a ∷ front.0) (record { begins = refl; closes = front.1 }))
    (IsDistinct-from_walk edges goal (b ∷ walk) acyclic l.1)

-- a walk of more than n vertices has a repeat
pub repeats-from_walk : (n : ℕ) (edges : Edges) (goal : ℕ) (walk : List ℕ) → AreVertices n edges → IsWalkTo edges goal walk → n < length walk → IsDistinct eqb walk → ⊥
repeats-from_walk n edges goal walk v l long d = let upto = length-IsDistinct walk n d (IsWalkTo-below n edges goal walk v l) in omega arith

-- without a cycle no walk is longer than n
pub length-IsWalkTo : (n : ℕ) (edges : Edges) (goal : ℕ) (walk : List ℕ) → AreVertices n edges → IsAcyclic edges → IsWalkTo edges goal walk → length walk ≤ n
length-IsWalkTo n edges goal walk v acyclic l = length-IsDistinct walk n (IsDistinct-from_walk edges goal walk acyclic l) (IsWalkTo-below n edges goal walk v l)

-- a cycle that goes through a vertex, wherever it begins, shows one that begins there
pub cycle-from_member : (edges : Edges) (a start : ℕ) (cycle : List ℕ) → IsCycle edges a cycle → IsIn start cycle → (other : List ℕ) × IsCycle edges start other
cycle-from_member edges a start [] c m = absurd m
cycle-from_member edges a start (x ∷ cycle) c (inl e) = (x ∷ cycle, record { begins = e; closes = subst (λ z. IsWalkTo edges z (x ∷ cycle)) (sym (begins_at edges a start x e c.begins)) c.closes })
  where
    begins_at : (edges : Edges) (a start x : ℕ) → start ≡ x → a ≡ x → start ≡ a
    begins_at edges a start x e b = omega arith
cycle-from_member edges a start (x ∷ cycle) c (inr m) =
    let front = IsWalkTo-front edges a start x cycle c.closes m in
    let back = IsWalkTo-back edges a start (x ∷ cycle) c.closes (inr m) in (
      (start ∷ back.0) ++ (x ∷ front.0),
      record {
        begins = refl;
        closes = IsWalkTo-append edges start x (start ∷ back.0) front.0 (subst (λ z. IsWalkTo edges z (start ∷ back.0)) c.begins back.1) front.1;
      },
    )
