-- Words that lie on cache lines of their own.
use Rattle.std.specs.Prelude.{ℕ, List, [], ◌∷◌}

-- behind each word stand seven that are never used
abbrev pub lines : List ℕ → List ℕ
lines [] = []
lines (w ∷ ws) = w ∷ 0 ∷ 0 ∷ 0 ∷ 0 ∷ 0 ∷ 0 ∷ 0 ∷ lines ws
