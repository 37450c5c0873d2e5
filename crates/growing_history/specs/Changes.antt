-- What changes between two positions of a history.
use Rattle.std.specs.Prelude.{◌≡◌, ℕ, ◌-◌, ◌≤◌, List, [], ◌∷◌, map, filter, flat_map, fold, take, drop, Bool, true, false, not, ◌||◌}
use Rattle.std.specs.List.{list_all}
use Rattle.semantics.specs.Texts.{Text, same, table_of, value_at, with_pair, Range, within}
use Rattle.semantics.specs.Patterns.{literal, slot, Pattern}
use Rattle.semantics.specs.Histories.{Write, put, remove, declare, drop_join, History, DeclaredJoin, joins_of}
use Rattle.semantics.specs.Stays.{Stay, stands_between}
use Rattle.semantics.specs.States.{below}

-- the key that a write puts or removes
abbrev pub written : Write → List Text
written (put k v) = k ∷ []
written (remove k) = k ∷ []
written (declare j) = []
written (drop_join at) = []

-- the entries after the first q, up to the first p
abbrev pub entries_between : ℕ → ℕ → History → History
entries_between q p h = take (p - q) (drop q h)

-- texts in order, each once
abbrev pub in_order : List Text → List Text
in_order ts = map (λ pair. pair.0) (fold (λ table t. with_pair t [] table) [] ts)

-- the keys of a range that entries q + 1 to p put or remove, ascending, each once
unfoldable pub changed_keys : ℕ → ℕ → Range → History → List Text
changed_keys q p r h = in_order (filter (within r) (flat_map (λ e. written e.write) (entries_between q p h)))

-- at a key the state with the joins of ranks below r alone is the same at all positions from q to p
abbrev pub Same : History → ℕ → ℕ → ℕ → Text → Type 0
Same h q p r key = (x : ℕ) → q ≤ x → x ≤ p → value_at key (below (take x h) r) ≡ value_at key (below (take q h) r)

-- whether the keys that fit a pattern are of the table
abbrev pub has_table : Pattern → Text → Bool
has_table [] table = false
has_table (literal l ∷ ss) table = same l table
has_table (slot place width ∷ ss) table = false

-- no join that stands has its output in the table of the range
abbrev pub is_bare : Range → List DeclaredJoin → Bool
is_bare r joins = list_all (λ s. not (has_table s.join.output (table_of r.low))) joins

-- the range is bare at a position: no join that stands there has its output in the range's table
abbrev pub IsBareAt : History → ℕ → Range → Type 0
IsBareAt h x range = is_bare range (joins_of (take x h)) ≡ true

-- the range is bare at all positions from q to p
abbrev pub IsBareThroughout : History → ℕ → ℕ → Range → Type 0
IsBareThroughout h q p range = (x : ℕ) → q ≤ x → x ≤ p → IsBareAt h x range

-- whether no join that stood at some position from q to p has its output in a table
abbrev pub bare_between : ℕ → ℕ → Text → List Stay → Bool
bare_between q p table stays = list_all (λ s. not (stands_between q p s) || not (has_table s.join.output table)) stays
