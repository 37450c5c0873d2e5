-- The keys that changed, found by the versions of a range's own keys.
use Rattle.std.proofs.Common.{◌≡◌, ℕ, ◌+◌, ◌≤◌, ◌&&◌, ◌||◌, Bool, true, false, cond, List, [], ◌∷◌, map, filter, fold, Option, None, Some, refl, sym, ap, ◌∙◌}
use Rattle.std.specs.List.{cons_option, list_any}
use Rattle.std.specs.List.Sorted.{IsStrictlySortedBy}
use Rattle.std.specs.Map.{keys_of}
use Rattle.std.specs.Option.{option_map}
use Rattle.std.proofs.lemmas.List.Elements.{filter-append}
use Rattle.std.proofs.lemmas.List.Folds.{list_any-append}
use Rattle.std.proofs.lemmas.List.{map-append}
use Rattle.semantics.specs.Texts.{Text, text_cmp, same, table_of, Table, value_at, with_pair, is_range, Range, within}
use Rattle.semantics.specs.Histories.{Write, put, remove, declare, drop_join, History}
use Rattle.semantics.proofs.PieceLemmas.{equal_by_same}
use Rattle.semantics.proofs.TableLemmas.{IsAscending, value_at-with_pair, ascending-with_pair, same_tables}
use Rattle.growing_history.specs.Changes.{written, changed_keys}
use Rattle.base_versions.specs.declared.versions.Version.{Version}
use Rattle.base_versions.specs.declared.changes.Change.{Change}
use Rattle.base_versions.specs.Positions.{lies_between}
use Rattle.base_versions.specs.Versions.{Tracks, version_by, versions_at, versions_of, has_between, keys_changed, pairs_by, SayFrom}
use Rattle.base_versions.specs.Changes.{change_by, changes_of, is_between, keys_within}
use Rattle.base_versions.specs.Kept.{TableKept, Kept, table_in, has_table, StandsFor}
use Rattle.base_versions.proofs.PositionLemmas.{between-kept_since}
use Rattle.base_versions.proofs.VersionLemmas.{versions_from}
use Rattle.base_versions.proofs.ChangeLemmas.{changes_from, keys_of_change, changed_in-changes_of}
use Rattle.base_versions.proofs.StandsLemmas.{part, sorted_part, ascending-pairs_by, value_at-part, said_versions}

-- ---- texts as a table without values

abbrev with_texts : Table → List Text → Table
with_texts table ts = fold (λ t key. with_pair key [] t) table ts

ascending-with_texts : (ts : List Text) (table : Table) → IsAscending table → IsAscending (with_texts table ts)
ascending-with_texts [] table h = h
ascending-with_texts (t ∷ ts) table h = ascending-with_texts ts (with_pair t [] table) (ascending-with_pair t [] table h)

either_text : (b c : Bool) (x o : Option Text) → cond c x (cond b x o) ≡ cond (b || c) x o
either_text true true x o = refl
either_text true false x o = refl
either_text false c x o = refl

value_at-with_texts : (q : Text) (ts : List Text) (table : Table) → value_at q (with_texts table ts) ≡ cond (list_any (same q) ts) (Some []) (value_at q table)
value_at-with_texts q [] table = refl
value_at-with_texts q (t ∷ ts) table =
    value_at-with_texts q ts (with_pair t [] table) ∙ ap (cond (list_any (same q) ts) (Some [])) (value_at-with_pair q t [] table)
    ∙ either_text (same q t) (list_any (same q) ts) (Some []) (value_at q table)

-- ---- which keys have a version between two positions, and which have a change

-- no value, for a key that has such a version
abbrev mark : Bool → Option Text
mark true = Some []
mark false = None

abbrev noted : ℕ → ℕ → List Version → Option Text
noted q p versions = mark (has_between q p versions)

noted_by : (b : Bool) (k : Text) (rest : Table) (ks : List Text) → map (λ pair. pair.0) rest ≡ ks → map (λ pair. pair.0) (cons_option (option_map (λ v. (k, v)) (mark b)) rest) ≡ cond b (k ∷ ks) ks
noted_by true k rest ks h = ap (λ ts. k ∷ ts) h
noted_by false k rest ks h = h

pushed_key : (b : Bool) (t : Text × List Version) (ts : Tracks) → map (λ track. track.0) (cond b (t ∷ ts) ts) ≡ cond b (t.0 ∷ map (λ track. track.0) ts) (map (λ track. track.0) ts)
pushed_key true t ts = refl
pushed_key false t ts = refl

-- the keys that have a version between are those of the marked pairs
keys-noted : (q p : ℕ) (ts : Tracks) → map (λ pair. pair.0) (pairs_by (noted q p) ts) ≡ keys_changed q p ts
keys-noted q p [] = refl
keys-noted q p (t ∷ ts) =
    noted_by (has_between q p t.1) t.0 (pairs_by (noted q p) ts) (keys_changed q p ts) (keys-noted q p ts)
    ∙ sym (pushed_key (has_between q p t.1) t (filter (λ track. has_between q p track.1) ts))

some_of : {A : Type 0} → List A → Bool
some_of [] = false
some_of (x ∷ xs) = true

any_by : {A : Type 0} (b : Bool) (x : A) (xs : List A) (c : Bool) → c ≡ some_of xs → (b || c) ≡ some_of (cond b (x ∷ xs) xs)
unfolding some_of
any_by true x xs c h = refl
any_by false x xs c h = h

-- whether some pass is whether some are left of those that pass
any-filter : {A : Type 0} (test : A → Bool) (xs : List A) → list_any test xs ≡ some_of (filter test xs)
unfolding some_of
any-filter test [] = refl
any-filter test (x ∷ xs) = any_by (test x) x (filter test xs) (list_any test xs) (any-filter test xs)

-- from the start on the kept versions of a key are between where all are
between-say_from : (start q p : ℕ) (kept all : List Version) → start ≤ q → SayFrom start kept all → has_between q p kept ≡ has_between q p all
between-say_from start q p kept all g s =
    any-filter (λ (v : Version). lies_between q p v.position) kept ∙ ap some_of (between-kept_since (λ v. v.position) start q p kept all g s.since)
    ∙ sym (any-filter (λ (v : Version). lies_between q p v.position) all)

-- ---- of one history

member_by : (test : Text → Bool) (k t : Text) (rest kept : List Text) (b s : Bool) → test t ≡ b → same k t ≡ s → list_any (same k) kept ≡ (test k && list_any (same k) rest) →
    list_any (same k) (cond b (t ∷ kept) kept) ≡ (test k && (s || list_any (same k) rest))
member_by test k t rest kept true true is e h = ap (λ x. x || list_any (same k) kept) e ∙ sym (ap (λ x. x && true) (ap test (equal_by_same k t e) ∙ is))
member_by test k t rest kept true false is e h = ap (λ x. x || list_any (same k) kept) e ∙ h
member_by test k t rest kept false true is e h =
    let fails : test k ≡ false = ap test (equal_by_same k t e) ∙ is in
    h ∙ ap (λ x. x && list_any (same k) rest) fails ∙ sym (ap (λ x. x && true) fails)
member_by test k t rest kept false false is e h = h

none_and : (b : Bool) → false ≡ (b && false)
none_and true = refl
none_and false = refl

-- a text is among those that pass where it passes and is among all
member-filter : (test : Text → Bool) (k : Text) (ts : List Text) → list_any (same k) (filter test ts) ≡ (test k && list_any (same k) ts)
member-filter test k [] = none_and (test k)
member-filter test k (t ∷ ts) = member_by test k t ts (filter test ts) (test t) (same k t) refl refl (member-filter test k ts)

or_none : (b : Bool) → (b || false) ≡ b
or_none true = refl
or_none false = refl

and_all : (b : Bool) → b ≡ (b && true)
and_all true = refl
and_all false = refl

both_parts : (w a b : Bool) → ((w && a) || (w && b)) ≡ (w && (a || b))
both_parts true a b = refl
both_parts false a b = refl

nothing_between : (l : Bool) (k : Text) → list_any (same k) (cond l [] []) ≡ false
nothing_between true k = refl
nothing_between false k = refl

-- ---- one write, and then all: a key is changed between the positions where its version is between them

member_written : (l s : Bool) (k t : Text) → same k t ≡ s → list_any (same k) (cond l (t ∷ []) []) ≡ (l && s)
member_written true true k t e = ap (λ x. x || false) e
member_written true false k t e = ap (λ x. x || false) e
member_written false s k t e = refl

between_made : (q p : ℕ) (s : Bool) (v : Version) → has_between q p (cond s (v ∷ []) []) ≡ (lies_between q p v.position && s)
between_made q p true v = or_none (lies_between q p v.position) ∙ and_all (lies_between q p v.position)
between_made q p false v = none_and (lies_between q p v.position)

filter_under : (test : Text → Bool) (b : Bool) (ts : List Text) → cond b (filter test ts) [] ≡ filter test (cond b ts [])
filter_under test true ts = refl
filter_under test false ts = refl

of_write : (q p position : ℕ) (k : Text) (write : Write) → list_any (same k) (cond (lies_between q p position) (written write) []) ≡ has_between q p (version_by position k write)
of_write q p position k (put t v) =
    member_written (lies_between q p position) (same k t) k t refl ∙ sym (between_made q p (same k t) (record { position = position; value = Some v }))
of_write q p position k (remove t) =
    member_written (lies_between q p position) (same k t) k t refl ∙ sym (between_made q p (same k t) (record { position = position; value = None }))
of_write q p position k (declare j) = nothing_between (lies_between q p position) k
of_write q p position k (drop_join at) = nothing_between (lies_between q p position) k

of_entries : (r : Range) (q p position : ℕ) (k : Text) (h : History) → is_range r.low r.high ≡ true →
    list_any (same k) (keys_within r (filter (is_between q p) (changes_from position (table_of r.low) h))) ≡ (within r k && has_between q p (versions_from position k h))
of_entries r q p position k [] ok = none_and (within r k)
of_entries r q p position k (e ∷ es) ok =
    let first = change_by position (table_of r.low) e.write in
    let rest = changes_from (position + 1) (table_of r.low) es in
    let here = version_by position k e.write in
    let later = versions_from (position + 1) k es in
    ap (λ ks. list_any (same k) ks)
    (ap (keys_within r) (filter-append (is_between q p) first rest)
    ∙ ap (filter (within r)) (map-append (λ (c : Change). c.key) (filter (is_between q p) first) (filter (is_between q p) rest))
    ∙ filter-append (within r) (map (λ c. c.key) (filter (is_between q p) first)) (map (λ c. c.key) (filter (is_between q p) rest)))
    ∙ list_any-append (same k) (keys_within r (filter (is_between q p) first)) (keys_within r (filter (is_between q p) rest))
    ∙ ap (λ b. b || list_any (same k) (keys_within r (filter (is_between q p) rest)))
    (ap (list_any (same k)) (keys_of_change r q p position e.write ok ∙ filter_under (within r) (lies_between q p position) (written e.write))
    ∙ member-filter (within r) k (cond (lies_between q p position) (written e.write) []) ∙ ap (λ b. within r k && b) (of_write q p position k e.write))
    ∙ ap (λ b. (within r k && has_between q p here) || b) (of_entries r q p (position + 1) k es ok)
    ∙ both_parts (within r k) (has_between q p here) (has_between q p later)
    ∙ ap (λ b. within r k && b) (sym (list_any-append (λ (v : Version). lies_between q p v.position) here later))

-- a key of a range is among the changed ones of its table where its versions are between
member-changed : (r : Range) (q p : ℕ) (k : Text) (h : History) → is_range r.low r.high ≡ true →
    list_any (same k) (keys_within r (filter (is_between q p) (changes_of (table_of r.low) h))) ≡ (within r k && has_between q p (versions_of k h))
unfolding changes_of versions_of
member-changed r q p k h ok = of_entries r q p 1 k h ok

marked : (w b : Bool) → cond w (mark b) None ≡ cond (w && b) (Some []) None
marked true true = refl
marked true false = refl
marked false b = refl

-- ---- the keys of a range

-- from the start on the keys of a range that have a version between two positions are those that the entries put or remove
pub keys_changed-kept : (start : ℕ) (kept : Kept) (h : History) (r : Range) (q p : ℕ) (table : TableKept) → StandsFor start kept h → start ≤ q → q ≤ p → has_table kept (table_of r.low) ≡ true → is_range r.low r.high ≡ true →
    table_in (table_of r.low) kept ≡ table → IsStrictlySortedBy text_cmp (keys_of table.tracks) → keys_changed q p (part r table.tracks) ≡ changed_keys q p r h
keys_changed-kept start kept h r q p table s g order own ok is sorted =
    let tracks = part r table.tracks in
    let ks = keys_within r (filter (is_between q p) (changes_of (table_of r.low) h)) in
    sym (keys-noted q p tracks)
    ∙ ap (λ (t : Table). map (λ pair. pair.0) t)
    (same_tables (pairs_by (noted q p) tracks) (with_texts [] ks) (ascending-pairs_by (noted q p) tracks (sorted_part r table.tracks sorted)) (ascending-with_texts ks [] refl) (λ k.
    value_at-part (noted q p) r table.tracks k (noted q p (versions_of k h)) sorted refl (λ inside.
    ap mark (between-say_from start q p (versions_at k table.tracks) (versions_of k h) g (said_versions start kept h r table s own ok is k inside)))
    ∙ marked (within r k) (has_between q p (versions_of k h)) ∙ ap (λ b. cond b (Some []) None) (sym (member-changed r q p k h ok)) ∙ sym (value_at-with_texts k ks [])))
    ∙ changed_in-changes_of h r q p order ok
