-- The ranges of each id, and where they are found by a key.
use Rattle.std.specs.Prelude.{◌≡◌, ℕ, ◌≤◌, ◌&&◌, List, [], ◌∷◌, length, take, not, slice_set, Bool, true}
use Rattle.semantics.specs.Texts.{Range}
use Rattle.updater_index.specs.Registered.{Held, ranges_of, has_range}
use Rattle.updater_index.specs.Sides.{Sides, is_registered}

-- whether no range stands twice
abbrev pub are_apart : List Range → Bool
are_apart [] = true
are_apart (r ∷ rs) = not (has_range rs r) && are_apart rs

-- just the ranges of each id are registered, and each is there once
pub record AreIndexed (held : Held) (sides : Sides) : Type 0 where
  pub agrees : (r : Range) (id : ℕ) → is_registered sides r id ≡ has_range (ranges_of id held) r
  pub apart : (id : ℕ) → are_apart (ranges_of id held) ≡ true

-- an id has its ranges, and perhaps more behind them; the others have theirs
pub record Grows (id : ℕ) (old new : Held) : Type 0 where
  pub others : new ≡ slice_set old id (ranges_of id new)
  pub first : take (length (ranges_of id old)) (ranges_of id new) ≡ ranges_of id old
  pub longer : length (ranges_of id old) ≤ length (ranges_of id new)
