-- What is found of what changed in the ranges of needs.
use Rattle.std.specs.Prelude.{◌≡◌, ℕ, ◌+◌, List, [], length, true}
use Rattle.std.specs.List.{list_any, sum_by, AllByRecursion}
use Rattle.semantics.specs.Texts.{Text, Range, is_range, within}
use Rattle.semantics.specs.Histories.{History}
use Rattle.growing_history.specs.Changes.{changed_keys, IsBareThroughout, Same}
use Rattle.range_evaluation.specs.Trees.{Need}
use Rattle.kept_ranges.specs.Rules.{reported_in}

-- the range of each need is a range
abbrev pub HaveRanges : List Need → Type 0
HaveRanges needs = AllByRecursion (λ need. is_range need.range.low need.range.high ≡ true) needs

-- nothing changes in a range from q to p: at each of its keys the same stands at all these positions, and where it is bare at all of them, no key of it is put or removed
pub record IsQuiet (h : History) (q p rank : ℕ) (range : Range) : Type 0 where
  pub same : (key : Text) → within range key ≡ true → Same h q p rank key
  pub unwritten : IsBareThroughout h q p range → changed_keys q p range h ≡ []

-- the range of each need is bare at all positions from q to p
abbrev pub AreBareThroughout : History → ℕ → ℕ → List Need → Type 0
AreBareThroughout h q p needs = AllByRecursion (λ need. IsBareThroughout h q p need.range) needs

-- each key lies in the range of some need
abbrev pub LieInRanges : List Need → List Text → Type 0
LieInRanges needs keys = AllByRecursion (λ key. list_any (λ need. within need.range key) needs ≡ true) keys

-- the keys that lie in a need's range are those of it that entries q + 1 to p put or remove
abbrev pub ListsWritten : ℕ → ℕ → History → List Text → Need → Type 0
ListsWritten q p h keys need = reported_in keys need ≡ changed_keys q p need.range h

-- so it is of each need
abbrev pub AreListed : ℕ → ℕ → History → List Need → List Text → Type 0
AreListed q p h needs keys = AllByRecursion (ListsWritten q p h keys) needs

-- how many keys of a need's range entries q + 1 to p put or remove
abbrev pub changed_count : ℕ → ℕ → History → Need → ℕ
changed_count q p h need = length (changed_keys q p need.range h)

-- how much it takes to ask for each need: 1, and 1 for each changed key of its range
abbrev pub asking_steps : ℕ → ℕ → History → List Need → ℕ
asking_steps q p h needs = sum_by (λ need. 1 + changed_count q p h need) needs
