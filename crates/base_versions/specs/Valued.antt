-- Changed keys with what stands there.
use Rattle.std.specs.Prelude.{◌≡◌, ℕ, List, map, take}
use Rattle.semantics.specs.Texts.{Range}
use Rattle.semantics.specs.Histories.{History, base_of}
use Rattle.growing_history.specs.Changes.{changed_keys}
use Rattle.growing_history.specs.StateChanges.{Change, change_to}
use Rattle.base_versions.specs.Versions.{Tracks, AscendFrom, value_in, versions_at}

-- the keys of a range that entries q + 1 to p put or remove, ascending, each once, with the value of the base pair after p entries, or none
abbrev pub base_changes : ℕ → ℕ → Range → History → List Change
base_changes q p range h = map (change_to (base_of (take p h))) (changed_keys q p range h)

-- a change has the value that the versions of its key say stands after p entries, or none, if they ascend
abbrev pub HasVersion : ℕ → Tracks → Change → Type 0
HasVersion p tracks change = AscendFrom 0 (versions_at change.key tracks) → change.value ≡ value_in p (versions_at change.key tracks)
