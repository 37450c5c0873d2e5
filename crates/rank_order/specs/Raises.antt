-- Ranks looked for one edge deeper.
use Rattle.std.specs.Prelude.{ℕ, suc, List, map, slice_index}
use Rattle.semantics.specs.Graphs.{Edges, read_by, vertices, greatest}

-- at a vertex one more than the greatest of the numbers that stand at what it reads, 0 where it reads nothing
abbrev pub raised_at : ℕ → Edges → List ℕ → ℕ → ℕ
raised_at n edges numbers a = greatest (map (λ b. suc (slice_index numbers b)) (read_by n edges a))

-- the same at each vertex, in order
abbrev pub raised : ℕ → Edges → List ℕ → List ℕ
raised n edges numbers = map (raised_at n edges numbers) (vertices n)
