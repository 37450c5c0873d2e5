-- Maps from keys to versions.
use Rattle.std.proofs.Common.{◌≡◌, List, [], ◌∷◌, ◌++◌, filter, Bool, true, false, cond, not, ◌&&◌, Some, refl, sym, ap, ◌∙◌, subst, Ordering, Less, Equal, Greater, is_lt}
use Rattle.std.specs.List.{AllByRecursion}
use Rattle.std.specs.Map.{lookup, keys_of}
use Rattle.std.specs.Option.{unwrap_or}
use Rattle.std.specs.Ordering.{match_ordering, is_le}
use Rattle.std.specs.BTreeMap.{is_at, insert_entry}
use Rattle.std.specs.BTreeMap.Range.{range_contains}
use Rattle.std.specs.declared.ops.Bound.TheVariants.{Included, Excluded}
use Rattle.semantics.specs.Texts.{Text, same, text_cmp, is_key, Range, within}
use Rattle.semantics.proofs.PieceLemmas.{equal_by_same}
use Rattle.semantics.proofs.TableLemmas.{same_is_tie}
use Rattle.key_ranges.proofs.OrderLemmas.{up_to-not_below}
use Rattle.base_versions.specs.declared.versions.Version.{Version}
use Rattle.base_versions.specs.Versions.{Tracks, versions_at, AddsVersion, KeepsVersions}

-- the new map has these versions at the key, and at every other key what it had
abbrev pub IsSet : Text → List Version → Tracks → Tracks → Type 0
IsSet key vs old new = (q : Text) → lookup (is_at (text_cmp q)) new ≡ cond (is_at (text_cmp key) q) (Some vs) (lookup (is_at (text_cmp q)) old)

-- a key that is the same, or another
pub set_by : (key : Text) (vs : List Version) (old new : Tracks) (q : Text) (b : Bool) → same key q ≡ b → IsSet key vs old new → versions_at q new ≡ cond b vs (versions_at q old)
set_by key vs old new q true e set = ap (λ o. unwrap_or o []) (set q ∙ ap (λ x. cond x (Some vs) (lookup (is_at (text_cmp q)) old)) (sym (same_is_tie key q) ∙ e))
set_by key vs old new q false e set = ap (λ o. unwrap_or o []) (set q ∙ ap (λ x. cond x (Some vs) (lookup (is_at (text_cmp q)) old)) (sym (same_is_tie key q) ∙ e))

added_by : (key : Text) (version : Version) (old : Tracks) (q : Text) (b : Bool) → same key q ≡ b →
    cond b (versions_at key old ++ version ∷ []) (versions_at q old) ≡ cond b (versions_at q old ++ version ∷ []) (versions_at q old)
added_by key version old q true e = ap (λ k. versions_at k old ++ version ∷ []) (equal_by_same key q e)
added_by key version old q false e = refl

-- one version more at the key
pub adds-from_set : (key : Text) (version : Version) (vs : List Version) (old new : Tracks) → vs ≡ versions_at key old ++ version ∷ [] → IsSet key vs old new → AddsVersion key version old new
adds-from_set key version vs old new e set = λ q.
    set_by key vs old new q (same key q) refl set ∙ ap (λ ws. cond (same key q) ws (versions_at q old)) e ∙ added_by key version old q (same key q) refl

kept_by : (key : Text) (old : Tracks) (q : Text) (b : Bool) → same key q ≡ b → cond b (versions_at key old) (versions_at q old) ≡ versions_at q old
kept_by key old q true e = ap (λ k. versions_at k old) (equal_by_same key q e)
kept_by key old q false e = refl

-- the same versions at the key
pub keeps-from_set : (key : Text) (vs : List Version) (old new : Tracks) → vs ≡ versions_at key old → IsSet key vs old new → KeepsVersions old new
keeps-from_set key vs old new e set = λ q.
    set_by key vs old new q (same key q) refl set ∙ ap (λ ws. cond (same key q) ws (versions_at q old)) e ∙ kept_by key old q (same key q) refl

-- ---- the texts of a map's places are keys

-- the texts are keys
abbrev pub AreKeys : Tracks → Type 0
AreKeys tracks = AllByRecursion (λ track. is_key track.0 ≡ true) tracks

to_keys : (tracks : Tracks) → AreKeys tracks → AllByRecursion (λ k. is_key k ≡ true) (keys_of tracks)
to_keys [] a = tt
to_keys (t ∷ ts) a = (a.0, to_keys ts a.1)

from_keys : (tracks : Tracks) → AllByRecursion (λ k. is_key k ≡ true) (keys_of tracks) → AreKeys tracks
from_keys [] a = tt
from_keys (t ∷ ts) a = (a.0, from_keys ts a.1)

-- maps with the same places
pub same_keys : (old new : Tracks) → keys_of new ≡ keys_of old → AreKeys old → AreKeys new
same_keys old new e a = from_keys new (subst (AllByRecursion (λ k. is_key k ≡ true)) (sym e) (to_keys old a))

placed : (o : Ordering) (key : Text) (vs : List Version) (t : Text × List Version) (ts more : Tracks) → is_key key ≡ true → AreKeys (t ∷ ts) → AreKeys more → AreKeys (match_ordering o ((key, vs) ∷ t ∷ ts) ((t.0, vs) ∷ ts) (t ∷ more))
placed Less key vs t ts more k a m = (k, a)
placed Equal key vs t ts more k a m = (a.0, a.1)
placed Greater key vs t ts more k a m = (a.0, m)

-- a map with one place more
pub keys-insert : (tracks : Tracks) (key : Text) (vs : List Version) → is_key key ≡ true → AreKeys tracks → AreKeys (insert_entry text_cmp tracks key vs)
keys-insert [] key vs k a = (k, tt)
keys-insert (t ∷ ts) key vs k a = placed (text_cmp key t.0) key vs t ts (insert_entry text_cmp ts key vs) k a (keys-insert ts key vs k a.1)

filtered : (b : Bool) (t : Text × List Version) (ts : Tracks) → is_key t.0 ≡ true → AreKeys ts → AreKeys (cond b (t ∷ ts) ts)
filtered true t ts k a = (k, a)
filtered false t ts k a = a

-- the places of a range
pub keys-filter : (test : Text × List Version → Bool) (tracks : Tracks) → AreKeys tracks → AreKeys (filter test tracks)
keys-filter test [] a = tt
keys-filter test (t ∷ ts) a = filtered (test t) t (filter test ts) a.0 (keys-filter test ts a.1)

-- ---- the part of a map in a range

filter_congr : (test other : Text × List Version → Bool) (ts : Tracks) → ((t : Text × List Version) → test t ≡ other t) → filter test ts ≡ filter other ts
filter_congr test other [] h = refl
filter_congr test other (t ∷ ts) h = ap (λ b. cond b (t ∷ filter test ts) (filter test ts)) (h t) ∙ ap (λ us. cond (other t) (t ∷ us) us) (filter_congr test other ts h)

not_not : (b : Bool) → not (not b) ≡ b
not_not true = refl
not_not false = refl

-- what lies between the bounds of a range is what lies within it
pub between_is_within : (r : Range) (ts : Tracks) → filter (λ t. range_contains text_cmp (Included r.low) (Excluded r.high) t.0) ts ≡ filter (λ t. within r t.0) ts
between_is_within r ts =
    filter_congr (λ (t : Text × List Version). range_contains text_cmp (Included r.low) (Excluded r.high) t.0) (λ t. within r t.0) ts (λ t.
    ap (λ b. is_le (text_cmp r.low t.0) && b) (ap not (up_to-not_below r.high t.0) ∙ not_not (is_lt (text_cmp t.0 r.high))))
