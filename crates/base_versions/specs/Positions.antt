-- Lists in order of position.
use Rattle.std.specs.Prelude.{◌≡◌, ℕ, ◌+◌, ◌≤◌, ◌&&◌, List, [], ◌∷◌, ◌++◌, length, take, drop, nat_le, nat_lt, Bool}
use Rattle.std.specs.List.{AllByRecursion}
use Rattle.semantics.specs.Histories.{Write, History}

-- the positions are from a number on, and each is above the one before
abbrev pub AscendBy : {X : Type 0} → (X → ℕ) → ℕ → List X → Type 0
AscendBy position low [] = Unit {0}
AscendBy position low (x ∷ xs) = (low ≤ position x) × AscendBy position (position x + 1) xs

-- whether a position is after the first q, and at most the p-th
abbrev pub lies_between : ℕ → ℕ → ℕ → Bool
lies_between q p position = nat_lt q position && nat_le position p

-- what the writes of entries make, where the entries begin at a position
abbrev pub made_from : {X : Type 0} → (ℕ → Write → List X) → ℕ → History → List X
made_from make position [] = []
made_from make position (e ∷ es) = make position e.write ++ made_from make (position + 1) es

-- what is kept of a list is what is left of it without some first elements, of which none is after the start
pub record IsKeptSince {X : Type 0} (position : X → ℕ) (start : ℕ) (kept all : List X) : Type 0 where
  pub count : ℕ
  pub within : count ≤ length all
  pub rest : kept ≡ drop count all
  pub early : AllByRecursion (λ x. position x ≤ start) (take count all)

-- whatever was kept of a list since a start, the new list is what is kept of it since a later position
abbrev pub KeepsTo : {X : Type 0} → (X → ℕ) → ℕ → List X → List X → Type 0
KeepsTo position to old new = (start : ℕ) (all : List _) → start ≤ to → IsKeptSince position start old all → IsKeptSince position to new all
