-- Which ids entries mark in a part of the tables.
use Rattle.std.specs.Prelude.{◌≡◌, ℕ, ◌==◌, List, ◌++◌, filter, flat_map}
use Rattle.semantics.specs.Texts.{Text, table_of}
use Rattle.semantics.specs.Histories.{History}
use Rattle.growing_history.specs.Changes.{written}
use Rattle.base_versions.specs.Kept.{shard_of}
use Rattle.base_versions.specs.declared.placed.Placed.{Placed}
use Rattle.updater_index.specs.Registered.{Held, Index, stabbed, with_marks}

-- the keys that entries put or remove in tables of the part with a number, in order
abbrev pub written_in : ℕ → History → List Text
written_in number entries = filter (λ key. shard_of 16 (table_of key) == number) (flat_map (λ e. written e.write) entries)

-- the ids with a range that contains such a key: those of the first key first
abbrev pub stabbed_by : ℕ → History → Held → List ℕ
stabbed_by number entries held = flat_map (λ key. stabbed key held) (written_in number entries)

-- the ranges and marks, once these ids are marked too, one after another
abbrev pub with_ids_marked : List ℕ → Index → Index
with_ids_marked ids index = record { held = index.held; marked = with_marks index.marked ids }

-- the ranges and marks, once each id is marked that has a range with a key which the entries put or remove in the part
abbrev pub marked_by : ℕ → History → Index → Index
marked_by number entries index = with_ids_marked (stabbed_by number entries index.held) index

-- the keys that entries put or remove, whose positions are known, in order
abbrev pub keys_of : List Placed → List Text
keys_of own = flat_map (λ p. written p.entry.write) own

-- the ranges and marks, once each id is marked that has a range with one of these keys
abbrev pub marked_by_keys : List Text → Index → Index
marked_by_keys keys index = with_ids_marked (flat_map (λ key. stabbed key index.held) keys) index

-- more ids are marked, and the ranges are those that were
pub record OnlyMarks (old new : Index) : Type 0 where
  pub ids : List ℕ
  pub is : new ≡ with_ids_marked ids old

-- each of these ids is marked, perhaps others too, and the ranges are those that were
pub record MarksAtLeast (number : ℕ) (entries : History) (old new : Index) : Type 0 where
  pub more : List ℕ
  pub is : new ≡ with_ids_marked (stabbed_by number entries old.held ++ more) old
