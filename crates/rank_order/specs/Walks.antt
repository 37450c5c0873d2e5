-- Walks by their steps, and the distances of vertices from a goal.
use Rattle.std.specs.Prelude.{◌≡◌, ℕ, zero, suc, ◌<◌, ◌≤◌, List, [], ◌∷◌, length, Bool, true, ◌==◌, if◌then◌else◌, slice_index}
use Rattle.semantics.specs.Graphs.{Edges, reads}

-- the walk of so many steps begins at the vertex, each reads the next, and the last reads the goal; with no step the vertex is the goal
abbrev pub LeadsBy : Edges → ℕ → ℕ → ℕ → List ℕ → Type 0
LeadsBy edges goal zero a [] = a ≡ goal
LeadsBy edges goal zero a (x ∷ walk) = ⊥
LeadsBy edges goal (suc steps) a [] = ⊥
LeadsBy edges goal (suc steps) a (x ∷ walk) = (a ≡ x) × ((b : ℕ) × (reads edges a b ≡ true) × LeadsBy edges goal steps b walk)

-- some walk of so many steps leads from the vertex to the goal
abbrev pub HasWalk : Edges → ℕ → ℕ → ℕ → Type 0
HasWalk edges goal steps a = (walk : List ℕ) × LeadsBy edges goal steps a walk

-- the number is the least number of steps, at least 1 and at most a bound, of a walk from the vertex; it is 0 where there is no such walk
pub record IsDistance (edges : Edges) (goal bound a distance : ℕ) : Type 0 where
  pub within : distance ≤ bound
  pub has_way : 0 < distance → HasWalk edges goal distance a
  pub least : (steps : ℕ) → 0 < steps → steps ≤ bound → HasWalk edges goal steps a → (0 < distance) × (distance ≤ steps)

-- each number is the distance of its vertex
abbrev pub AreDistances : Edges → ℕ → ℕ → List ℕ → Type 0
AreDistances edges goal bound distances = (a : ℕ) → a < length distances → IsDistance edges goal bound a (slice_index distances a)

-- whether a vertex has a distance; the goal itself has distance 0 too
abbrev pub is_at_distance : List ℕ → ℕ → ℕ → ℕ → Bool
is_at_distance distances goal steps vertex = if steps == 0 then vertex == goal else (slice_index distances vertex == steps)

-- the least vertex of a distance that the vertex reads
pub record IsLeastNext (edges : Edges) (distances : List ℕ) (goal steps a b : ℕ) : Type 0 where
  pub read : reads edges a b ≡ true
  pub near : is_at_distance distances goal steps b ≡ true
  pub least : (c : ℕ) → reads edges a c ≡ true → is_at_distance distances goal steps c ≡ true → b ≤ c

-- the vertex reads none of the distance
abbrev pub HasNoNext : Edges → List ℕ → ℕ → ℕ → ℕ → Type 0
HasNoNext edges distances goal steps a = (c : ℕ) → reads edges a c ≡ true → is_at_distance distances goal steps c ≡ true → ⊥
