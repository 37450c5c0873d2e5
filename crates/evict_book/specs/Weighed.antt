-- How a book keeps its ids.
use Rattle.std.specs.Prelude.{◌≡◌, ℕ, ◌&&◌, ◌==◌, ◌^◌, [], ◌∷◌, reverse, Bool, true, not, nat_le, nat_lt}
use Rattle.std.specs.List.{list_all}
use Rattle.lru.specs.LruCache.{LruCache}
use Rattle.evict_book.specs.Books.{Used, total_weight}

-- whether no id is there twice
abbrev pub are_once : Used → Bool
are_once [] = true
are_once (e ∷ es) = list_all (λ f. not (e.0 == f.0)) es && are_once es

-- each id is there once and is below the number of cells, and no weight is above 2^48
pub record AreLight (cells : ℕ) (used : Used) : Type 0 where
  pub once : are_once used ≡ true
  pub below : list_all (λ e. nat_lt e.0 cells) used ≡ true
  pub light : list_all (λ e. nat_le e.1 (2 ^ 48)) used ≡ true

-- the ids of a book with their weights: there is room for each, and the total is what they weigh together
pub record AreWeighed (weights : LruCache ℕ ℕ) (sum cells : ℕ) : Type 0 where
  pub used : AreLight cells (reverse weights.entries)
  pub room : weights.cap ≡ cells
  pub sum_is : sum ≡ total_weight (reverse weights.entries)
