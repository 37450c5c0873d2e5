-- The positions of the entries of each part of the tables.
use Rattle.std.specs.Prelude.{◌≡◌, ℕ, ◌+◌, List, [], map, get_or}
use Rattle.semantics.specs.Histories.{History}
use Rattle.base_versions.specs.Own.{own_from}

-- the positions of a part's entries, and for how many more there is room
pub record Numbers : Type 0 where
  pub positions : List ℕ
  pub room : ℕ

-- those of a part, by its number, of which there are none where there is no such part
abbrev pub numbers_of : ℕ → List Numbers → Numbers
numbers_of part parts = get_or parts part (record { positions = []; room = 0 })

abbrev pub positions_of : ℕ → List Numbers → List ℕ
positions_of part parts = (numbers_of part parts).positions

-- of entries that begin at a position, those of one of 16 parts: their positions
abbrev pub own_positions : ℕ → ℕ → History → List ℕ
own_positions part position es = map (λ p. p.position) (own_from 16 part position es)

-- for each part the positions of its entries are known, of entries before which so many are left out
abbrev pub AreNumbered : ℕ → History → List Numbers → Type 0
AreNumbered lacks es parts = (part : ℕ) → positions_of part parts ≡ own_positions part (lacks + 1) es
