-- The versions of a key: what it was given, and at which positions.
use Rattle.std.specs.Prelude.{◌≡◌, ◌⊎◌, ℕ, ◌+◌, ◌<◌, ◌≤◌, length, take, drop, List, [], ◌∷◌, ◌++◌, Bool, map, filter, filter_map, fold, nat_le, if◌then◌else◌, Option, Some, None, option_map}
use Rattle.std.specs.List.{AllByRecursion, list_any}
use Rattle.std.specs.BTreeMap.{is_at}
use Rattle.std.specs.Map.{lookup}
use Rattle.std.specs.Option.{unwrap_or}
use Rattle.semantics.specs.Texts.{Text, same, text_cmp, Table}
use Rattle.semantics.specs.Histories.{Write, put, remove, declare, drop_join, History}
use Rattle.base_versions.specs.Named.{EachHas, OthersHave}
use Rattle.base_versions.specs.Positions.{AscendBy, IsKeptSince, lies_between, made_from}
use Rattle.base_versions.specs.declared.versions.Version.{Version}

-- the version that a key has from a write at a position, where the write changes the key
abbrev pub version_by : ℕ → Text → Write → List Version
version_by position key (put k v) = if same key k then record { position = position; value = Some v } ∷ [] else []
version_by position key (remove k) = if same key k then record { position = position; value = None } ∷ [] else []
version_by position key (declare j) = []
version_by position key (drop_join at) = []

-- the versions that a key has from a history
unfoldable pub versions_of : Text → History → List Version
versions_of key h = made_from (λ position. version_by position key) 1 h

-- versions with the newest behind the older ones, where there is one
abbrev pub with_newest : List Version → Option Version → List Version
with_newest older None = older
with_newest older (Some newest) = older ++ newest ∷ []

-- what stands at a key after p entries: the value of its last version whose position is at most p
abbrev pub value_in : ℕ → List Version → Option Text
value_in p versions = fold (λ value v. if nat_le v.position p then v.value else value) None versions

-- the versions' positions are from a number on, and each is above the one before
abbrev pub AscendFrom : ℕ → List Version → Type 0
AscendFrom low versions = AscendBy (λ v. v.position) low versions

-- at the positions from a start on the kept versions of a key say what all its versions say
pub record SayFrom (start : ℕ) (kept all : List Version) : Type 0 where
  pub since : IsKeptSince (λ v. v.position) start kept all
  pub values : (p : ℕ) → start ≤ p → value_in p kept ≡ value_in p all

-- whatever the versions of a key said from a start on, the new ones say from a later position on
abbrev pub TrimsTo : ℕ → List Version → List Version → Type 0
TrimsTo to old new = (start : ℕ) (all : List Version) → start ≤ to → SayFrom start old all → SayFrom to new all

-- some first versions are left out, behind which comes one that is not after a position
pub record IsTrimmed (to : ℕ) (old new : List Version) : Type 0 where
  pub count : ℕ
  pub is : new ≡ drop count old
  pub rest : (count ≡ 0) ⊎ ((count < length old) × AllByRecursion (λ v. v.position ≤ to) (take (count + 1) old))

-- the versions of several keys, in the order of the keys
abbrev pub Tracks : Type 0
Tracks = List (Text × List Version)

-- the versions of a key among those of several
abbrev pub versions_at : Text → Tracks → List Version
versions_at key tracks = unwrap_or (lookup (is_at (text_cmp key)) tracks) []

-- the versions of each key ascend
abbrev pub AllAscend : Tracks → Type 0
AllAscend = AllByRecursion (λ track. AscendFrom 0 track.1)

-- each key has a version: one without any takes no place
abbrev pub EachHasVersion : Tracks → Type 0
EachHasVersion tracks = EachHas (λ versions. 0 < length versions) tracks

-- each key but one has a version
abbrev pub OthersHaveVersions : Text → Tracks → Type 0
OthersHaveVersions key tracks = OthersHave (λ versions. 0 < length versions) key tracks

-- the key and what is made of its versions, where something is
abbrev pub pair_by : (List Version → Option Text) → Text × List Version → Option (Text × Text)
pair_by made track = option_map (λ value. (track.0, value)) (made track.1)

-- the pairs that are made of the versions of several keys
abbrev pub pairs_by : (List Version → Option Text) → Tracks → Table
pairs_by made tracks = filter_map (pair_by made) tracks

-- the pairs after p entries
abbrev pub pairs_in : ℕ → Tracks → Table
pairs_in p tracks = pairs_by (value_in p) tracks

-- whether a key has a version after the first q entries, up to the p-th
abbrev pub has_between : ℕ → ℕ → List Version → Bool
has_between q p versions = list_any (λ v. lies_between q p v.position) versions

-- those of several keys that have such a version
abbrev pub keys_changed : ℕ → ℕ → Tracks → List Text
keys_changed q p tracks = map (λ track. track.0) (filter (λ track. has_between q p track.1) tracks)

-- the new versions are the old ones with one more at the key
abbrev pub AddsVersion : Text → Version → Tracks → Tracks → Type 0
AddsVersion key version old new = (q : Text) → versions_at q new ≡ (if same key q then versions_at q old ++ version ∷ [] else versions_at q old)

-- each key has the same versions
abbrev pub KeepsVersions : Tracks → Tracks → Type 0
KeepsVersions old new = (q : Text) → versions_at q new ≡ versions_at q old

-- whatever the versions of each key said from a start on, the new ones say from a later position on, if they ascend
abbrev pub TrimsTracks : ℕ → Tracks → Tracks → Type 0
TrimsTracks to old new = (q : Text) → AscendFrom 0 (versions_at q old) → TrimsTo to (versions_at q old) (versions_at q new)
