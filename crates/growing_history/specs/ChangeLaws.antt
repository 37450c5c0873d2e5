-- Laws on what changes between two positions.
use Rattle.std.specs.Prelude.{◌≡◌, ℕ, ◌<◌, ◌≤◌, ◌↔◌, take, slice_get, Contains, true}
use Rattle.std.specs.List.Sorted.{IsStrictlySortedBy}
use Rattle.std.specs.Option.{IsSomeAnd}
use Rattle.semantics.specs.Texts.{Text, text_cmp, table_of, is_range, Range, within, pairs_within}
use Rattle.semantics.specs.Patterns.{Pattern, is_pattern, fits}
use Rattle.semantics.specs.Histories.{Write, put, remove, declare, drop_join, History, joins_of, base_of}
use Rattle.semantics.specs.States.{below}
use Rattle.semantics.specs.StateLaws.{DeclaresJoins}
use Rattle.growing_history.specs.Changes.{changed_keys, Same, has_table, is_bare, IsBareThroughout, bare_between}
use Rattle.semantics.specs.Stays.{stays_of}

-- the write puts or removes the key
abbrev pub Writes : Write → Text → Type 0
Writes (put k v) key = k ≡ key
Writes (remove k) key = k ≡ key
Writes (declare j) key = ⊥
Writes (drop_join at) key = ⊥

-- one of the entries q + 1 to p puts or removes the key; entry x + 1 stands at place x of the history
abbrev pub IsWrittenBetween : ℕ → ℕ → History → Text → Type 0
IsWrittenBetween q p h key = (x : ℕ) × (q ≤ x) × (x < p) × IsSomeAnd (slice_get h x) (λ e. Writes e.write key)

-- whatever is declared is a join
abbrev pub DeclaresAlways : History → Type 0
DeclaresAlways h = (x : ℕ) → DeclaresJoins (take x h)

-- the changed keys ascend, each once
abbrev pub ChangedKeysAscend : Type 0
ChangedKeysAscend = (q p : ℕ) (r : Range) (h : History) → IsStrictlySortedBy text_cmp (changed_keys q p r h)

-- the changed keys are those keys of the range that one of the entries q + 1 to p puts or removes
abbrev pub ChangedKeysAreWritten : Type 0
ChangedKeysAreWritten = (q p : ℕ) (r : Range) (h : History) (key : Text) → Contains (changed_keys q p r h) key ↔ ((within r key ≡ true) × IsWrittenBetween q p h key)

-- at a key of a range that is bare at all positions from q to p and that is not among the changed ones the state is the same at all of them
abbrev pub UnchangedIsSame : Type 0
UnchangedIsSame = (h : History) (q p rank : ℕ) (r : Range) (key : Text) → DeclaresAlways h → is_range r.low r.high ≡ true → IsBareThroughout h q p r →
    within r key ≡ true → (Contains (changed_keys q p r h) key → ⊥) → Same h q p rank key

-- of the keys that fit a pattern each is of the pattern's table
abbrev pub TableOfFitting : Type 0
TableOfFitting = (p : Pattern) (table key : Text) → is_pattern p ≡ true → fits p key ≡ true → (has_table p table ≡ true) ↔ (table_of key ≡ table)

-- in a bare range the state with the joins of ranks below any one is the base pairs
abbrev pub BareIsBase : Type 0
BareIsBase = (h : History) (rank : ℕ) (r : Range) → DeclaresJoins h → is_range r.low r.high ≡ true → is_bare r (joins_of h) ≡ true →
    pairs_within r (below h rank) ≡ pairs_within r (base_of h)

-- a range is bare at all positions from q to p exactly where no join that stood at one of them has its output in the table
abbrev pub BareBetweenIsThroughout : Type 0
BareBetweenIsThroughout = (h : History) (q p : ℕ) (r : Range) → q ≤ p → (bare_between q p (table_of r.low) (stays_of h) ≡ true) ↔ IsBareThroughout h q p r
