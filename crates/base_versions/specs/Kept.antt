-- What is kept of a history, and which histories it stands for.
use Rattle.std.specs.Prelude.{◌≡◌, ◌⊎◌, filter, ℕ, ◌+◌, ◌<◌, ◌%◌, ◌==◌, List, [], ◌∷◌, ◌++◌, length, sum, take, Bool, true, false, Option}
use Rattle.std.specs.Bool.{MatchBool}
use Rattle.std.specs.List.Sorted.{IsStrictlySortedBy}
use Rattle.std.specs.Map.{keys_of}
use Rattle.semantics.specs.Texts.{Text, same, table_of, text_cmp, Range, within}
use Rattle.semantics.specs.Histories.{History}
use Rattle.base_versions.specs.declared.changes.Change.{Change}
use Rattle.base_versions.specs.Named.{EachHas, OthersHave, among}
use Rattle.base_versions.specs.Versions.{Tracks, AllAscend, SayFrom, keys_changed, versions_at, versions_of, AddsVersion, KeepsVersions, TrimsTracks}
use Rattle.base_versions.specs.Changes.{changes_of, changed_in}
use Rattle.base_versions.specs.Positions.{IsKeptSince, KeepsTo}

-- of one table: the versions of its keys, and its changes in order
pub record TableKept : Type 0 where
  pub tracks : Tracks
  pub changes : List Change

-- the keys were found by versions: the keys of the table are in order, and these are those of the range that have a version after the first q entries, up to the p-th, if the versions of each ascend
pub record IsFoundByVersions (q p : ℕ) (range : Range) (table : TableKept) (keys : List Text) : Type 0 where
  pub ordered : IsStrictlySortedBy text_cmp (keys_of table.tracks)
  pub found : AllAscend (filter (λ track. within range track.0) table.tracks) → keys ≡ keys_changed q p (filter (λ track. within range track.0) table.tracks)

-- the keys of a range that are changed after the first q entries, up to the p-th: by the table's changes, or by the versions of the range's keys
abbrev pub FindsChanged : ℕ → ℕ → Range → TableKept → List Text → Type 0
FindsChanged q p range table keys = (keys ≡ changed_in q p range table.changes) ⊎ IsFoundByVersions q p range table keys

-- of several tables, in the order of their names
abbrev pub Tables : Type 0
Tables = List (Text × TableKept)

-- a table has a key or a change
abbrev pub HasKeyOrChange : TableKept → Type 0
HasKeyOrChange table = 0 < length table.tracks + length table.changes

-- each table has a key or a change: one without any takes no place
abbrev pub EachHasKeyOrChange : Tables → Type 0
EachHasKeyOrChange tables = EachHas HasKeyOrChange tables

-- each table but one has a key or a change
abbrev pub OthersHaveKeyOrChange : Text → Tables → Type 0
OthersHaveKeyOrChange table tables = OthersHave HasKeyOrChange table tables

-- of the tables of one shard: which shard, of how many, from which position on, the number of entries, and what is kept of each table
pub record Kept : Type 0 where
  pub shard : ℕ
  pub shards : ℕ
  pub start : ℕ
  pub position : ℕ
  pub tables : Tables

-- of a table of which nothing is known
abbrev pub empty_table : TableKept
empty_table = record { tracks = []; changes = [] }

-- what is kept of a table among several
abbrev pub table_among : Text → Tables → TableKept
table_among table tables = among empty_table table tables

-- what is kept of a table
abbrev pub table_in : Text → Kept → TableKept
table_in table kept = table_among table kept.tables

-- the key is given a value at a position, or none: its table has one version and one change more, and the others are as they were
pub record IsEntered (position : ℕ) (key : Text) (value : Option Text) (old new : Tables) : Type 0 where
  pub versions : AddsVersion key (record { position = position; value = value }) (table_among (table_of key) old).tracks (table_among (table_of key) new).tracks
  pub changes : (table_among (table_of key) new).changes ≡ (table_among (table_of key) old).changes ++ record { position = position; key = key } ∷ []
  pub others : (table : Text) → same (table_of key) table ≡ false → table_among table new ≡ table_among table old

-- each table has the same versions and changes
pub record IsKept (old new : Tables) : Type 0 where
  pub versions : (table : Text) → KeepsVersions (table_among table old).tracks (table_among table new).tracks
  pub changes : (table : Text) → (table_among table new).changes ≡ (table_among table old).changes

-- whatever each table said from a start on, the new ones say from a later position on
pub record IsTrimmedTo (to : ℕ) (old new : Tables) : Type 0 where
  pub versions : (table : Text) → TrimsTracks to (table_among table old).tracks (table_among table new).tracks
  pub changes : (table : Text) → KeepsTo (λ c. c.position) to (table_among table old).changes (table_among table new).changes

-- of which of so many shards a table is: the sum of its name's bytes says it
abbrev pub shard_of : ℕ → Text → ℕ
shard_of shards table = sum table % shards

-- whether a table is of the shard that is kept
abbrev pub has_table : Kept → Text → Bool
has_table kept table = shard_of kept.shards table == kept.shard

-- the key is given a value at a position, or none, where its table is of the shard; otherwise nothing changes
abbrev pub IsChanged : ℕ → Text → Option Text → Kept → Kept → Type 0
IsChanged position key value old new =
    MatchBool (has_table old (table_of key)) (IsEntered position key value old.tables new.tables) (IsKept old.tables new.tables)

-- what is kept says this of the history at the positions from a start on: its length, the versions of each key of the shard, and the changes of each table of the shard
pub record StandsFor (start : ℕ) (kept : Kept) (h : History) : Type 0 where
  pub same_length : kept.position ≡ length h
  pub versions : (key : Text) → has_table kept (table_of key) ≡ true → SayFrom start (versions_at key (table_in (table_of key) kept).tracks) (versions_of key h)
  pub changes : (table : Text) → has_table kept table ≡ true → IsKeptSince (λ c. c.position) start (table_in table kept).changes (changes_of table h)

-- some first entries have entered, and not all
pub record HasEnteredInPart (old : Kept) (entries : History) (new : Kept) : Type 0 where
  pub count : ℕ
  pub some : count < length entries
  pub position : new.position ≡ old.position + count
  pub history : (start : ℕ) (h : History) → StandsFor start old h → StandsFor start new (h ++ take count entries)
