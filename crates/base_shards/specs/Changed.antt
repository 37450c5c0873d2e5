-- What changes in several ranges.
use Rattle.std.specs.Prelude.{ℕ, ◌+◌, List, length, flat_map, sum_by}
use Rattle.semantics.specs.Texts.{Text, Range}
use Rattle.semantics.specs.Histories.{History}
use Rattle.growing_history.specs.Changes.{in_order, changed_keys}

-- the keys of some ranges that entries q + 1 to p put or remove, ascending, each once
abbrev pub changed_in_all : ℕ → ℕ → List Range → History → List Text
changed_in_all q p ranges h = in_order (flat_map (λ range. changed_keys q p range h) ranges)

-- the steps that it takes to find them: for each range one, and one for each of its keys
abbrev pub steps_of_all : ℕ → ℕ → List Range → History → ℕ
steps_of_all q p ranges h = sum_by (λ range. 1 + length (changed_keys q p range h)) ranges
