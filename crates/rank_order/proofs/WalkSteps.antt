-- Walks by their steps: a step more, and what they say of walks and cycles.
use Rattle.std.proofs.Common.{◌≡◌, ℕ, zero, suc, ◌<◌, ◌≤◌, List, [], ◌∷◌, length, true, eqb, ne_eqb, eqb-true, eq-eqb, slice_index, refl, sym, subst, ◌∙◌, arith, inl, inr}
use Rattle.std.proofs.lemmas.Bool.{cond-false, cases_lt}
use Rattle.semantics.specs.Graphs.{Edges, reads, IsWalkTo, BeginsWith}
use Rattle.semantics.proofs.GraphWalks.{IsWalk, IsWalk-cons}
use Rattle.rank_order.specs.Walks.{LeadsBy, HasWalk, AreDistances, is_at_distance}

-- a vertex before a walk from a vertex that it reads
pub HasWalk-cons : (edges : Edges) (goal steps a b : ℕ) → reads edges a b ≡ true → HasWalk edges goal steps b → HasWalk edges goal (suc steps) a
HasWalk-cons edges goal steps a b r h = (a ∷ h.0, (refl, (b, r, h.1)))

-- a walk of a step or more goes by a vertex that is read
pub next-from_HasWalk : (edges : Edges) (goal steps a : ℕ) → HasWalk edges goal (suc steps) a → (b : ℕ) × (reads edges a b ≡ true) × HasWalk edges goal steps b
next-from_HasWalk edges goal steps a h = of_list edges goal steps a h.0 h.1
  where
    of_list : (edges : Edges) (goal steps a : ℕ) (walk : List ℕ) → LeadsBy edges goal (suc steps) a walk → (b : ℕ) × (reads edges a b ≡ true) × HasWalk edges goal steps b
    of_list edges goal steps a [] l = absurd l
    of_list edges goal steps a (x ∷ walk) l = (l.1.0, l.1.1, (walk, l.1.2))

-- the goal itself is at no step
pub goal-from_HasWalk : (edges : Edges) (goal a : ℕ) → HasWalk edges goal 0 a → a ≡ goal
goal-from_HasWalk edges goal a h = of_list edges goal a h.0 h.1
  where
    of_list : (edges : Edges) (goal a : ℕ) (walk : List ℕ) → LeadsBy edges goal zero a walk → a ≡ goal
    of_list edges goal a [] l = l
    of_list edges goal a (x ∷ walk) l = absurd l

-- a walk of a step or more is a walk by its vertices
pub IsWalk-from_LeadsBy : (edges : Edges) (goal steps a : ℕ) (walk : List ℕ) → LeadsBy edges goal (suc steps) a walk → IsWalk edges goal (suc steps) a walk
IsWalk-from_LeadsBy edges goal steps a [] l = absurd l
IsWalk-from_LeadsBy edges goal zero a (x ∷ []) l =
    record { begins = l.0; leads = subst (λ z. reads edges z goal ≡ true) l.0 (subst (λ z. reads edges a z ≡ true) l.1.2 l.1.1); count = refl }
IsWalk-from_LeadsBy edges goal zero a (x ∷ y ∷ walk) l = absurd l.1.2
IsWalk-from_LeadsBy edges goal (suc steps) a (x ∷ walk) l =
    subst (λ z. IsWalk edges goal (suc (suc steps)) a (z ∷ walk)) l.0
    (IsWalk-cons edges goal (suc steps) a l.1.0 walk l.1.1 (IsWalk-from_LeadsBy edges goal steps l.1.0 walk l.1.2))

-- a walk by its vertices is one by its steps
pub LeadsBy-from_list : (edges : Edges) (goal a : ℕ) (walk : List ℕ) → BeginsWith a walk → IsWalkTo edges goal walk → LeadsBy edges goal (length walk) a walk
LeadsBy-from_list edges goal a [] b l = absurd b
LeadsBy-from_list edges goal a (x ∷ []) b l = (b, (goal, subst (λ z. reads edges z goal ≡ true) (sym b) l, refl))
LeadsBy-from_list edges goal a (x ∷ y ∷ walk) b l =
    (b, (y, subst (λ z. reads edges z y ≡ true) (sym b) l.0, LeadsBy-from_list edges goal y (y ∷ walk) refl l.1))

-- a walk by its vertices is one by its steps
pub LeadsBy-from_IsWalk : (edges : Edges) (goal steps a : ℕ) (walk : List ℕ) → IsWalk edges goal steps a walk → LeadsBy edges goal steps a walk
LeadsBy-from_IsWalk edges goal steps a walk w = subst (λ k. LeadsBy edges goal k a walk) w.count (LeadsBy-from_list edges goal a walk w.begins w.leads)

-- the goal is at distance 0
pub goal-from_is_at : (distances : List ℕ) (goal vertex : ℕ) → is_at_distance distances goal 0 vertex ≡ true → vertex ≡ goal
goal-from_is_at distances goal vertex h = eqb-true vertex goal h

-- a distance of a step or more stands in the list
pub is_at_distance-suc : (distances : List ℕ) (goal steps vertex : ℕ) → is_at_distance distances goal (suc steps) vertex ≡ eqb (slice_index distances vertex) (suc steps)
is_at_distance-suc distances goal steps vertex =
    cond-false (eqb (suc steps) 0) (eqb vertex goal) (eqb (slice_index distances vertex) (suc steps)) (ne_eqb (suc steps) 0 (omega arith))

-- a vertex at a distance of a step or more has it in the list
pub distance-from_is_at : (distances : List ℕ) (goal steps vertex : ℕ) → is_at_distance distances goal (suc steps) vertex ≡ true → slice_index distances vertex ≡ suc steps
distance-from_is_at distances goal steps vertex h =
    eqb-true (slice_index distances vertex) (suc steps) (sym (is_at_distance-suc distances goal steps vertex) ∙ h)

-- a vertex that has it in the list is at that distance
pub is_at-from_distance : (distances : List ℕ) (goal steps vertex : ℕ) → slice_index distances vertex ≡ suc steps → is_at_distance distances goal (suc steps) vertex ≡ true
is_at-from_distance distances goal steps vertex h =
    is_at_distance-suc distances goal steps vertex ∙ eq-eqb (slice_index distances vertex) (suc steps) h

-- from a vertex at a distance a walk of so many steps leads to the goal
pub HasWalk-from_is_at : (edges : Edges) (goal bound : ℕ) (distances : List ℕ) (steps b : ℕ) → AreDistances edges goal bound distances → b < length distances →
    is_at_distance distances goal steps b ≡ true → HasWalk edges goal steps b
HasWalk-from_is_at edges goal bound distances zero b d h t = ([], goal-from_is_at distances goal b t)
HasWalk-from_is_at edges goal bound distances (suc steps) b d h t =
    let e = distance-from_is_at distances goal steps b t in
    subst (λ k. HasWalk edges goal k b) e ((d b h).has_way (omega arith))

-- where a vertex has no shorter walk than one over a vertex that it reads, that one is at the distance of its walk
pub is_at-from_HasWalk : (edges : Edges) (goal bound : ℕ) (distances : List ℕ) (steps a b : ℕ) → AreDistances edges goal bound distances → b < length distances →
    steps ≤ bound → reads edges a b ≡ true → ((j : ℕ) → j < steps → HasWalk edges goal (suc j) a → ⊥) → HasWalk edges goal steps b → is_at_distance distances goal steps b ≡ true
is_at-from_HasWalk edges goal bound distances zero a b d h upto r shorter w = eq-eqb b goal (goal-from_HasWalk edges goal b w)
is_at-from_HasWalk edges goal bound distances (suc steps) a b d h upto r shorter w =
    let here = (d b h).least (suc steps) (omega arith) upto w in
    is_at-from_distance distances goal steps b (exact edges goal steps a b (slice_index distances b) here.0 here.1 ((d b h).has_way here.0) r shorter)
  where
    exact : (edges : Edges) (goal steps a b distance : ℕ) → 0 < distance → distance ≤ suc steps → HasWalk edges goal distance b → reads edges a b ≡ true →
        ((j : ℕ) → j < suc steps → HasWalk edges goal (suc j) a → ⊥) → distance ≡ suc steps
    exact edges goal steps a b distance some upto w r shorter =
        elim (cases_lt distance (suc steps)) [ inl lt ↦ absurd (shorter distance lt (HasWalk-cons edges goal distance a b r w)) | inr ge ↦ omega arith ]
