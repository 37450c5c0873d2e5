-- Readings as graphs: ranks, walks and the least cycle.
use Rattle.std.specs.Prelude.{◌≡◌, ℕ, zero, suc, ◌<◌, ◌⊎◌, ◌&&◌, ◌==◌, List, [], ◌∷◌, length, map, filter, flat_map, fold, max, Bool, true, if◌then◌else◌, Option, Some, None}
use Rattle.std.specs.List.{list_any, range_with_len}
use Rattle.std.specs.Ordering.{nat_cmp, is_le}
use Rattle.std.specs.Cmp.Lexicographic.{slice_cmp}

-- the vertices are 0, 1, and so on; an edge (a, b) says that a reads b
abbrev pub Edges : Type 0
Edges = List (ℕ × ℕ)

-- whether a reads b
abbrev pub reads : Edges → ℕ → ℕ → Bool
reads edges a b = list_any (λ e. e.0 == a && (e.1 == b)) edges

-- the vertices below n
abbrev pub vertices : ℕ → List ℕ
vertices n = range_with_len 0 n

-- the vertices below n that a reads, ascending
abbrev pub read_by : ℕ → Edges → ℕ → List ℕ
read_by n edges a = filter (reads edges a) (vertices n)

-- the greatest number of a list, 0 for none
abbrev pub greatest : List ℕ → ℕ
greatest = fold max 0

-- the rank, looked for so many edges deep
abbrev pub rank_within : ℕ → ℕ → Edges → ℕ → ℕ
rank_within zero n edges a = 0
rank_within (suc deeper) n edges a = greatest (map (λ b. suc (rank_within deeper n edges b)) (read_by n edges a))

-- the rank: 0 where nothing is read, otherwise one more than the greatest that is read; a walk without a cycle has at most n vertices
unfoldable pub rank : ℕ → Edges → ℕ → ℕ
rank n edges a = rank_within n n edges a

-- the ranks of all vertices, in order
abbrev pub ranks : ℕ → Edges → List ℕ
ranks n edges = map (rank n edges) (vertices n)

-- ---- walks and cycles, as relations

-- each vertex of the walk reads the next, and the last reads the goal
abbrev pub IsWalkTo : Edges → ℕ → List ℕ → Type 0
IsWalkTo edges goal [] = ⊥
IsWalkTo edges goal (a ∷ []) = reads edges a goal ≡ true
IsWalkTo edges goal (a ∷ b ∷ walk) = (reads edges a b ≡ true) × IsWalkTo edges goal (b ∷ walk)

-- the list begins with the vertex
abbrev pub BeginsWith : ℕ → List ℕ → Type 0
BeginsWith a [] = ⊥
BeginsWith a (b ∷ walk) = a ≡ b

-- a cycle through a vertex: it begins there, each vertex reads the next, and the last reads the first
pub record IsCycle (edges : Edges) (start : ℕ) (cycle : List ℕ) : Type 0 where
  pub begins : BeginsWith start cycle
  pub closes : IsWalkTo edges start cycle

-- the first list is shorter, or as long and not greater, compared number by number
abbrev pub IsNotAfter : List ℕ → List ℕ → Type 0
IsNotAfter walk other = (length walk < length other) ⊎ ((length walk ≡ length other) × (is_le (slice_cmp nat_cmp walk other) ≡ true))

-- the shortest cycle through a vertex, and among the shortest the least
pub record IsLeastCycle (edges : Edges) (start : ℕ) (cycle : List ℕ) : Type 0 where
  pub is_cycle : IsCycle edges start cycle
  pub least : (other : List ℕ) → IsCycle edges start other → IsNotAfter cycle other

-- no cycle goes through the vertex
abbrev pub HasNoCycle : Edges → ℕ → Type 0
HasNoCycle edges start = (cycle : List ℕ) → IsCycle edges start cycle → ⊥

-- no cycle goes through any vertex
abbrev pub IsAcyclic : Edges → Type 0
IsAcyclic edges = (start : ℕ) → HasNoCycle edges start

-- both ends of each edge are vertices below n
abbrev pub AreVertices : ℕ → Edges → Type 0
AreVertices n [] = Unit {0}
AreVertices n (e ∷ es) = (e.0 < n) × (e.1 < n) × AreVertices n es

-- ---- the least cycle, computed

-- the walks of so many vertices from a vertex to the goal, in order
abbrev pub walks : ℕ → Edges → ℕ → ℕ → ℕ → List (List ℕ)
walks n edges goal zero a = []
walks n edges goal (suc zero) a = if reads edges a goal then (a ∷ []) ∷ [] else []
walks n edges goal (suc (suc more)) a = map (λ walk. a ∷ walk) (flat_map (walks n edges goal (suc more)) (read_by n edges a))

abbrev pub first_of : List (List ℕ) → Option (List ℕ)
first_of [] = None
first_of (walk ∷ walks) = Some walk

-- the first walk of the least length back to the vertex; the lengths are tried upwards
unfoldable pub least_cycle : ℕ → Edges → ℕ → Option (List ℕ)
least_cycle n edges start = first_of (flat_map (λ more. walks n edges start (suc more) start) (vertices n))
