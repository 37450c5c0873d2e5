-- Tables without what nobody asks for who asks from a position on.
use Rattle.std.proofs.Common.{◌≡◌, ℕ, ◌≤◌, List, [], ◌∷◌, length, Bool, true, false, cond, None, refl, sym, ap, ◌∙◌, subst, arith}
use Rattle.std.specs.Map.{lookup, remove_entry}
use Rattle.std.specs.Option.{unwrap_or}
use Rattle.std.specs.BTreeMap.{is_at}
use Rattle.semantics.specs.Texts.{Text, same, text_cmp, table_of}
use Rattle.semantics.specs.Histories.{History}
use Rattle.semantics.proofs.PieceLemmas.{equal_by_same, same_itself}
use Rattle.semantics.proofs.TableLemmas.{same_is_tie}
use Rattle.base_versions.specs.declared.versions.Version.{Version}
use Rattle.base_versions.specs.declared.changes.Change.{Change}
use Rattle.base_versions.specs.Positions.{IsKeptSince, KeepsTo}
use Rattle.base_versions.specs.Versions.{AscendFrom, Tracks, SayFrom, versions_at, versions_of, KeepsVersions, TrimsTo, TrimsTracks}
use Rattle.base_versions.specs.Changes.{changes_of}
use Rattle.base_versions.specs.Kept.{TableKept, Tables, Kept, empty_table, table_among, table_in, has_table, IsTrimmedTo, StandsFor}
use Rattle.base_versions.proofs.MapLemmas.{AreKeys, IsSet, set_by}
use Rattle.base_versions.proofs.VersionLemmas.{ascend-say_from}
use Rattle.base_versions.proofs.TrimLemmas.{trims-same, trims-both, trims-ascend, keeps-same}
use Rattle.base_versions.proofs.NamedLemmas.{IsSetAt}
use Rattle.base_versions.proofs.EnterLemmas.{same_shard}

-- ---- the keys of one table

trims_by : (to : ℕ) (key q : Text) (vs : List Version) (old : Tracks) (b : Bool) → same key q ≡ b → (AscendFrom 0 (versions_at key old) → TrimsTo to (versions_at key old) vs) →
    AscendFrom 0 (versions_at q old) → TrimsTo to (versions_at q old) (cond b vs (versions_at q old))
trims_by to key q vs old true e trims = subst (λ (k : Text). AscendFrom 0 (versions_at k old) → TrimsTo to (versions_at k old) vs) (equal_by_same key q e) trims
trims_by to key q vs old false e trims = λ a. trims-same to (versions_at q old)

-- one key says the same from a later position on, and the others what they said
pub trims-from_set : (to : ℕ) (key : Text) (vs : List Version) (old new : Tracks) → IsSet key vs old new → (AscendFrom 0 (versions_at key old) → TrimsTo to (versions_at key old) vs) → TrimsTracks to old new
trims-from_set to key vs old new set trims = λ q a.
    subst (λ ws. TrimsTo to (versions_at q old) ws) (sym (set_by key vs old new q (same key q) refl set)) (trims_by to key q vs old (same key q) refl trims a)

-- the versions of the key that is set
pub set_here : (key : Text) (vs : List Version) (old new : Tracks) → IsSet key vs old new → versions_at key new ≡ vs
set_here key vs old new set = set_by key vs old new key true (same_itself key) set

-- each key has the versions that it had
pub trims-tracks_same : (to : ℕ) (tracks : Tracks) → TrimsTracks to tracks tracks
trims-tracks_same to tracks = λ q a. trims-same to (versions_at q tracks)

-- and so after each key has kept its versions
pub trims-kept : (to : ℕ) (old mid new : Tracks) → TrimsTracks to old mid → KeepsVersions mid new → TrimsTracks to old new
trims-kept to old mid new trims keeps = λ q a. subst (λ ws. TrimsTo to (versions_at q old) ws) (sym (keeps q)) (trims q a)

-- the new map has nothing at the key, and at every other key what it had
abbrev pub IsTaken : Text → Tracks → Tracks → Type 0
IsTaken key old new = (q : Text) → lookup (is_at (text_cmp q)) new ≡ cond (is_at (text_cmp key) q) None (lookup (is_at (text_cmp q)) old)

taken_by : (key q : Text) (old : Tracks) (b : Bool) → same key q ≡ b → versions_at key old ≡ [] → unwrap_or (cond b None (lookup (is_at (text_cmp q)) old)) [] ≡ versions_at q old
taken_by key q old true e none = sym none ∙ ap (λ (k : Text). versions_at k old) (equal_by_same key q e)
taken_by key q old false e none = refl

-- a key without versions is taken out
pub keeps-from_taken : (key : Text) (old new : Tracks) → versions_at key old ≡ [] → IsTaken key old new → KeepsVersions old new
keeps-from_taken key old new none gone = λ q.
    ap (λ o. unwrap_or o []) (gone q ∙ ap (λ b. cond b None (lookup (is_at (text_cmp q)) old)) (sym (same_is_tie key q)))
    ∙ taken_by key q old (same key q) refl none

removed : (b : Bool) (t : Text × List Version) (ts rest : Tracks) → AreKeys (t ∷ ts) → AreKeys rest → AreKeys (cond b ts (t ∷ rest))
removed true t ts rest a m = a.1
removed false t ts rest a m = (a.0, m)

-- a map with one place less
pub keys-remove : (test : Text → Bool) (tracks : Tracks) → AreKeys tracks → AreKeys (remove_entry test tracks)
keys-remove test [] a = tt
keys-remove test (t ∷ ts) a = removed (test t.0) t ts (remove_entry test ts) a (keys-remove test ts a.1)

-- ---- tables in a map

abbrev of_change : Change → ℕ
of_change c = c.position

trimmed_by : (to : ℕ) (name q : Text) (before table : TableKept) (old : Tables) (b : Bool) → same name q ≡ b → before ≡ table_among name old → TrimsTracks to before.tracks table.tracks → KeepsTo of_change to before.changes table.changes →
    TrimsTracks to (table_among q old).tracks (cond b table (table_among q old)).tracks × KeepsTo of_change to (table_among q old).changes (cond b table (table_among q old)).changes
trimmed_by to name q before table old true e was versions changes =
    let is : before ≡ table_among q old = was ∙ ap (λ n. table_among n old) (equal_by_same name q e) in
    (subst (λ (t : TableKept). TrimsTracks to t.tracks table.tracks) is versions, subst (λ (t : TableKept). KeepsTo of_change to t.changes table.changes) is changes)
trimmed_by to name q before table old false e was versions changes =
    (trims-tracks_same to (table_among q old).tracks, keeps-same of_change to (table_among q old).changes)

-- one table says the same from a later position on, and the others what they said
pub trimmed-from_set : (to : ℕ) (name : Text) (before table : TableKept) (old new : Tables) → IsSetAt empty_table name table old new → before ≡ table_among name old → TrimsTracks to before.tracks table.tracks → KeepsTo of_change to before.changes table.changes →
    IsTrimmedTo to old new
trimmed-from_set to name before table old new set was versions changes =
    record {
      versions = λ q. subst (λ (t : TableKept). TrimsTracks to (table_among q old).tracks t.tracks) (sym (set q)) (trimmed_by to name q before table old (same name q) refl was versions changes).0;
      changes = λ q. subst (λ (t : TableKept). KeepsTo of_change to (table_among q old).changes t.changes) (sym (set q)) (trimmed_by to name q before table old (same name q) refl was versions changes).1;
    }

-- each table is what it was
pub trimmed-same : (to : ℕ) (tables : Tables) → IsTrimmedTo to tables tables
trimmed-same to tables = record {
  versions = λ q. trims-tracks_same to (table_among q tables).tracks;
  changes = λ q. keeps-same of_change to (table_among q tables).changes;
}

-- trimmed once, and once more
pub trimmed-both : (to : ℕ) (old mid new : Tables) → IsTrimmedTo to old mid → IsTrimmedTo to mid new → IsTrimmedTo to old new
trimmed-both to old mid new first next = record {
  versions = λ table key a.
      let before = versions_at key (table_among table old).tracks in
      let between = versions_at key (table_among table mid).tracks in
      trims-both to before between (versions_at key (table_among table new).tracks) (first.versions table key a) (next.versions table key (trims-ascend to before between (first.versions table key a) a));
  changes = λ table start all less s. next.changes table to all (omega arith) (first.changes table start all less s);
}

-- and so with other tables of which each is the same
pub trimmed-kept : (to : ℕ) (old mid new : Tables) → IsTrimmedTo to old mid → ((q : Text) → table_among q new ≡ table_among q mid) → IsTrimmedTo to old new
trimmed-kept to old mid new trims same_tables = record {
  versions = λ q. subst (λ (t : TableKept). TrimsTracks to (table_among q old).tracks t.tracks) (sym (same_tables q)) (trims.versions q);
  changes = λ q. subst (λ (t : TableKept). KeepsTo of_change to (table_among q old).changes t.changes) (sym (same_tables q)) (trims.changes q);
}

-- ---- what is kept of a history

-- from a later position on it stands for the same histories
pub stands-trimmed : (start to : ℕ) (old new : Kept) (h : History) → new.position ≡ old.position → new.shard ≡ old.shard → new.shards ≡ old.shards → IsTrimmedTo to old.tables new.tables → start ≤ to → StandsFor start old h → StandsFor to new h
stands-trimmed start to old new h position shard shards trimmed less s =
    record {
      same_length = position ∙ s.same_length;
      versions = λ key own.
          let said = s.versions key (same_shard old new (table_of key) shard shards own) in
          trimmed.versions (table_of key) key (ascend-say_from start (versions_at key (table_in (table_of key) old).tracks) key h said) start (versions_of key h) less said;
      changes = λ table own. trimmed.changes table start (changes_of table h) less (s.changes table (same_shard old new table shard shards own));
    }
