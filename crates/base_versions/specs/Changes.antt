-- The changes of a table: which of its keys were put or removed, and at which positions.
use Rattle.std.specs.Prelude.{ℕ, List, [], ◌∷◌, map, filter, Bool, if◌then◌else◌}
use Rattle.semantics.specs.Texts.{Text, same, table_of, Range, within}
use Rattle.semantics.specs.Histories.{Write, put, remove, declare, drop_join, History}
use Rattle.growing_history.specs.Changes.{in_order}
use Rattle.base_versions.specs.Positions.{AscendBy, lies_between, made_from}
use Rattle.base_versions.specs.declared.changes.Change.{Change}

-- the change that a write at a position makes in a table
abbrev pub change_by : ℕ → Text → Write → List Change
change_by position table (put k v) = if same (table_of k) table then record { position = position; key = k } ∷ [] else []
change_by position table (remove k) = if same (table_of k) table then record { position = position; key = k } ∷ [] else []
change_by position table (declare j) = []
change_by position table (drop_join at) = []

-- the changes that a history makes in a table
unfoldable pub changes_of : Text → History → List Change
changes_of table h = made_from (λ position. change_by position table) 1 h

-- the changes' positions are from a number on, and each is above the one before
abbrev pub Ascend : ℕ → List Change → Type 0
Ascend low changes = AscendBy (λ c. c.position) low changes

-- whether a change came after the first q entries, and at most as the p-th
abbrev pub is_between : ℕ → ℕ → Change → Bool
is_between q p c = lies_between q p c.position

-- the keys of changes that lie in a range
abbrev pub keys_within : Range → List Change → List Text
keys_within range cs = filter (within range) (map (λ c. c.key) cs)

-- the keys of the range that changes after the first q entries, up to the p-th, speak of: ascending, each once
abbrev pub changed_in : ℕ → ℕ → Range → List Change → List Text
changed_in q p range cs = in_order (keys_within range (filter (is_between q p) cs))
