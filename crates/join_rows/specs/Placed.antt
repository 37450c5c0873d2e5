-- Pairs by the places of their keys.
use Rattle.std.specs.Prelude.{◌≡◌, List, map, true}
use Rattle.std.specs.List.{AllByRecursion}
use Rattle.std.specs.FinMap.Entries.{is_sorted}
use Rattle.semantics.specs.Texts.{Text, is_key, text_cmp, Table}

-- pairs, each at a place
abbrev pub PlacedPairs : Type 0
PlacedPairs = List (Text × (Text × Text))

-- the pairs alone
abbrev pub pairs_of : PlacedPairs → Table
pairs_of = map (λ e. e.1)

-- the pair stands at the place of its key, which is one
pub record IsPlaced (placed : Text × (Text × Text)) : Type 0 where
  pub own : placed.0 ≡ placed.1.0
  pub key : is_key placed.0 ≡ true

-- each pair stands at the place of its key, and the places ascend
pub record ArePlaced (placed : PlacedPairs) : Type 0 where
  pub own : AllByRecursion (λ e. IsPlaced e) placed
  pub ascending : is_sorted text_cmp (pairs_of placed) ≡ true
