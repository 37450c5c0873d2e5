-- Laws on readings and their ranks.
use Rattle.std.specs.Prelude.{◌≡◌, ℕ, suc, ◌<◌, map, MatchOption}
use Rattle.semantics.specs.Graphs.{Edges, AreVertices, read_by, greatest, rank, least_cycle, IsAcyclic, HasNoCycle, IsLeastCycle}

-- without a cycle a rank is 0 where nothing is read, otherwise exactly one more than the greatest that is read
abbrev pub RankIsOneMore : Type 0
RankIsOneMore = (n : ℕ) (edges : Edges) (a : ℕ) → AreVertices n edges → IsAcyclic edges → a < n →
    rank n edges a ≡ greatest (map (λ b. suc (rank n edges b)) (read_by n edges a))

-- there is a least cycle exactly where one goes through the vertex: no other is shorter, and none as short is less
abbrev pub CycleIsLeast : Type 0
CycleIsLeast = (n : ℕ) (edges : Edges) (start : ℕ) → AreVertices n edges → start < n →
    MatchOption (least_cycle n edges start) (HasNoCycle edges start) (IsLeastCycle edges start)
