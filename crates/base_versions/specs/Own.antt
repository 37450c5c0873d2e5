-- The entries that put or remove keys of the tables of one shard.
use Rattle.std.specs.Prelude.{◌≡◌, ℕ, ◌+◌, ◌==◌, List, [], ◌∷◌, ◌++◌, length, Bool, false, if◌then◌else◌, Option, Some, None}
use Rattle.semantics.specs.Texts.{table_of}
use Rattle.semantics.specs.Histories.{Write, put, remove, declare, drop_join, History}
use Rattle.base_versions.specs.Kept.{Kept, shard_of}
use Rattle.base_versions.specs.declared.placed.Placed.{Placed}

-- the shard of the table whose key a write puts or removes, of so many; none where it does neither
abbrev pub shard_written : ℕ → Write → Option ℕ
shard_written shards (put k v) = Some (shard_of shards (table_of k))
shard_written shards (remove k) = Some (shard_of shards (table_of k))
shard_written shards (declare j) = None
shard_written shards (drop_join at) = None

-- whether there is a shard, and it is this one
abbrev pub is_this : ℕ → Option ℕ → Bool
is_this shard None = false
is_this shard (Some found) = found == shard

-- whether a write puts or removes a key of a table of a shard, of so many
abbrev pub is_of : ℕ → ℕ → Write → Bool
is_of shards shard write = is_this shard (shard_written shards write)

-- of entries that begin at a position those that do so, with their positions
abbrev pub own_from : ℕ → ℕ → ℕ → History → List Placed
own_from shards shard position [] = []
own_from shards shard position (e ∷ es) = (if is_of shards shard e.write then record { position = position; entry = e } ∷ [] else []) ++ own_from shards shard (position + 1) es

-- the entries follow what is kept up to a position, and these are those of the shard
pub record AreOwn (kept : Kept) (to : ℕ) (own : List Placed) (es : History) : Type 0 where
  pub reach : kept.position + length es ≡ to
  pub are : own ≡ own_from kept.shards kept.shard (kept.position + 1) es
