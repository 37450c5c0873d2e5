-- What is kept of a history, through one entry more.
use Rattle.std.proofs.Common.{◌≡◌, ℕ, ◌+◌, List, [], ◌∷◌, ◌++◌, length, length-append, Bool, true, false, cond, ◌==◌, Option, refl, sym, ap, ◌∙◌, subst, Result, Ok, Err, OnOk, OnErr, IfOk}
use Rattle.std.specs.Bool.{MatchBool}
use Rattle.std.specs.Map.{lookup}
use Rattle.std.specs.Option.{unwrap_or}
use Rattle.std.specs.BTreeMap.{is_at}
use Rattle.std.specs.Cmp.Lexicographic.{slice_cmp}
use Rattle.std.specs.Ordering.{nat_cmp}
use Rattle.std.specs.String.{string_bytes}
use Rattle.std.specs.declared.string.String.{String}
use Rattle.std.proofs.lemmas.Bool.{false≢true, false_from_ne_true}
use Rattle.std.proofs.lemmas.List.{append-nil}
use Rattle.semantics.specs.Texts.{Text, same, table_of}
use Rattle.semantics.specs.Histories.{Write, Entry, History}
use Rattle.semantics.proofs.PieceLemmas.{equal_by_same, same_by_equal}
use Rattle.base_versions.specs.declared.versions.Version.{Version}
use Rattle.base_versions.specs.Named.{named}
use Rattle.base_versions.specs.Versions.{version_by, versions_at, versions_of, SayFrom, AddsVersion, KeepsVersions}
use Rattle.base_versions.specs.Changes.{change_by, changes_of}
use Rattle.base_versions.specs.Kept.{TableKept, Tables, Kept, empty_table, table_among, table_in, shard_of, has_table, IsEntered, IsKept, IsChanged, StandsFor}
use Rattle.base_versions.proofs.NamedLemmas.{IsSetAt, among_found, here, elsewhere}
use Rattle.base_versions.proofs.VersionLemmas.{versions_of-push, say_from_all, say_from-append}
use Rattle.base_versions.proofs.ChangeLemmas.{changes_of-push}
use Rattle.base_versions.proofs.PositionLemmas.{kept_since_all, kept_since-append}
use Rattle.base_versions.specs.Positions.{IsKeptSince}
use Rattle.base_versions.specs.declared.changes.Change.{Change}

-- ---- tables in a map

-- what a look-up finds is what is kept of the table, or nothing is
pub table_found : {A : Type 0} (kept : Kept) (view : Kept) (name table : Text) (es : List (String A × TableKept)) (o : Option TableKept) → view ≡ kept → view.tables ≡ named es → name ≡ table →
    o ≡ lookup (is_at (λ k. slice_cmp nat_cmp name (string_bytes k))) es → table_in table kept ≡ unwrap_or o empty_table
table_found kept view name table es o is all same_name e =
    ap (λ k. table_in table k) (sym is) ∙ ap (table_among table) all ∙ among_found empty_table name table es o same_name e

-- the key's table has one version and one change more
pub entered-from_set : (position : ℕ) (key : Text) (value : Option Text) (before table : TableKept) (old new : Tables) → IsSetAt empty_table (table_of key) table old new → before ≡ table_among (table_of key) old →
    AddsVersion key (record { position = position; value = value }) before.tracks table.tracks → table.changes ≡ before.changes ++ record { position = position; key = key } ∷ [] → IsEntered position key value old new
entered-from_set position key value before table old new set was versions changes =
    let is = sym (here empty_table (table_of key) table old new set) in
    record {
      versions = subst (λ (t : TableKept). AddsVersion key (record { position = position; value = value }) t.tracks (table_among (table_of key) new).tracks) was
          (subst (λ (t : TableKept). AddsVersion key (record { position = position; value = value }) before.tracks t.tracks) is versions);
      changes = ap (λ (t : TableKept). t.changes) (sym is) ∙ changes ∙ ap (λ (t : TableKept). t.changes ++ record { position = position; key = key } ∷ []) was;
      others = λ q e. elsewhere empty_table (table_of key) q table old new set e;
    }

kept_by : (name q : Text) (before table : TableKept) (old : Tables) (b : Bool) → same name q ≡ b → before ≡ table_among name old → KeepsVersions before.tracks table.tracks → table.changes ≡ before.changes →
    KeepsVersions (table_among q old).tracks (cond b table (table_among q old)).tracks × ((cond b table (table_among q old)).changes ≡ (table_among q old).changes)
kept_by name q before table old true e was versions changes =
    let is : before ≡ table_among q old = was ∙ ap (λ n. table_among n old) (equal_by_same name q e) in
    (subst (λ (t : TableKept). KeepsVersions t.tracks table.tracks) is versions, changes ∙ ap (λ (t : TableKept). t.changes) is)
kept_by name q before table old false e was versions changes = ((λ k. refl), refl)

-- each table has the same versions and changes
pub kept-from_set : (name : Text) (before table : TableKept) (old new : Tables) → IsSetAt empty_table name table old new → before ≡ table_among name old → KeepsVersions before.tracks table.tracks → table.changes ≡ before.changes → IsKept old new
kept-from_set name before table old new set was versions changes =
    record {
      versions = λ q. subst (λ (t : TableKept). KeepsVersions (table_among q old).tracks t.tracks) (sym (set q)) (kept_by name q before table old (same name q) refl was versions changes).0;
      changes = λ q. ap (λ (t : TableKept). t.changes) (set q) ∙ (kept_by name q before table old (same name q) refl was versions changes).1;
    }

-- what holds where both facts do
pub on_ok_both : {X E P Q R : Type 0} (r : Result X E) → (P → Q → R) → OnOk r P → OnOk r Q → OnOk r R
on_ok_both (Ok x) f p q = f p q
on_ok_both (Err e) f p q = tt

pub on_err_both : {X E P Q R : Type 0} (r : Result X E) → (P → Q → R) → OnErr r P → OnErr r Q → OnErr r R
on_err_both (Ok x) f p q = tt
on_err_both (Err e) f p q = f p q

-- what holds at any error
pub on_err_always : {X E P : Type 0} (r : Result X E) → P → OnErr r P
on_err_always (Ok x) p = tt
on_err_always (Err e) p = p

-- what holds of a value for each of several, where something holds of them
pub if_ok_each : {X E A B : Type 0} (r : Result X E) (S : A → B → Type 0) (T : A → Type 0) (P : B → X → Type 0) → ((a : A) (b : B) → S a b → T a → IfOk r (P b)) → IfOk r (λ x. (a : A) (b : B) → S a b → T a → P b x)
if_ok_each (Ok x) S T P f = f
if_ok_each (Err e) S T P f = tt

-- what holds of a value where something holds with it
pub if_ok_given : {X E S : Type 0} (r : Result X E) (P : X → Type 0) → OnOk r S → (S → IfOk r P) → IfOk r P
if_ok_given (Ok x) P s f = f s
if_ok_given (Err e) P s f = tt

-- ---- the history

-- no entries
pub stands-nil : (kept : Kept) → kept.position ≡ 0 → kept.tables ≡ [] → StandsFor 0 kept []
unfolding versions_of changes_of
stands-nil kept position tables =
    record {
      same_length = position;
      versions = λ key own. say_from_all 0 (versions_at key (table_in (table_of key) kept).tracks) [] (ap (λ ts. versions_at key (table_among (table_of key) ts).tracks) tables);
      changes = λ table own. kept_since_all (λ c. c.position) 0 (table_in table kept).changes [] (ap (λ ts. (table_among table ts).changes) tables);
    }

-- a table of the one shard is of the other
pub same_shard : (old new : Kept) (table : Text) → new.shard ≡ old.shard → new.shards ≡ old.shards → has_table new table ≡ true → has_table old table ≡ true
same_shard old new table shard shards own =
    ap (λ n. shard_of n table == old.shard) (sym shards) ∙ ap (λ n. shard_of new.shards table == n) (sym shard) ∙ own

-- the same versions and changes stand for the same histories
pub stands-kept : (start : ℕ) (old new : Kept) (h : History) → new.position ≡ old.position → new.shard ≡ old.shard → new.shards ≡ old.shards → IsKept old.tables new.tables → StandsFor start old h → StandsFor start new h
stands-kept start old new h position shard shards kept s =
    record {
      same_length = position ∙ s.same_length;
      versions = λ key own. subst (λ vs. SayFrom start vs (versions_of key h)) (sym (kept.versions (table_of key) key)) (s.versions key (same_shard old new (table_of key) shard shards own));
      changes = λ table own. subst (λ cs. IsKeptSince (λ (c : Change). c.position) start cs (changes_of table h)) (sym (kept.changes table)) (s.changes table (same_shard old new table shard shards own));
    }

same_by : (t u : Text) (b c : Bool) → same t u ≡ b → same u t ≡ c → b ≡ c
same_by t u true true h g = refl
same_by t u true false h g = absurd (false≢true (sym g ∙ same_by_equal u t (sym (equal_by_same t u h))))
same_by t u false true h g = absurd (false≢true (sym h ∙ same_by_equal t u (sym (equal_by_same u t g))))
same_by t u false false h g = refl

-- it does not matter which text is first
same_either_way : (t u : Text) → same t u ≡ same u t
same_either_way t u = same_by t u (same t u) (same u t) refl refl

pushed : {A : Type 0} (b : Bool) (xs : List A) (x : A) → cond b (xs ++ x ∷ []) xs ≡ xs ++ cond b (x ∷ []) []
pushed true xs x = refl
pushed false xs x = sym (append-nil xs)

-- nothing more, where the test fails
nothing : {A : Type 0} (b : Bool) (xs ys : List A) (x : A) → b ≡ false → ys ≡ xs → ys ≡ xs ++ cond b (x ∷ []) []
nothing b xs ys x e h = h ∙ sym (append-nil xs) ∙ ap (λ c. xs ++ cond c (x ∷ []) []) (sym e)

-- keys of two tables are two keys
other_key : (key q : Text) → same (table_of key) (table_of q) ≡ false → same q key ≡ false
other_key key q e = false_from_ne_true (same q key) (λ h. false≢true (sym e ∙ same_by_equal (table_of key) (table_of q) (sym (ap table_of (equal_by_same q key h)))))

-- a table of the shard is not that of a key that is not of the shard
other_shard : (old : Kept) (key table : Text) → has_table old (table_of key) ≡ false → has_table old table ≡ true → same (table_of key) table ≡ false
other_shard old key table e own = false_from_ne_true (same (table_of key) table) (λ h. false≢true (sym e ∙ ap (has_table old) (equal_by_same (table_of key) table h) ∙ own))

versions_in_table : (key : Text) (version : Version) (old new : Tables) (q : Text) (b : Bool) → same (table_of key) (table_of q) ≡ b →
    AddsVersion key version (table_among (table_of key) old).tracks (table_among (table_of key) new).tracks → ((table : Text) → same (table_of key) table ≡ false → table_among table new ≡ table_among table old) →
    versions_at q (table_among (table_of q) new).tracks ≡ versions_at q (table_among (table_of q) old).tracks ++ cond (same q key) (version ∷ []) []
versions_in_table key version old new q true e versions others =
    let name = equal_by_same (table_of key) (table_of q) e in
    subst (λ (t : Text). versions_at q (table_among t new).tracks ≡ versions_at q (table_among t old).tracks ++ cond (same q key) (version ∷ []) []) name
    (versions q ∙ pushed (same key q) (versions_at q (table_among (table_of key) old).tracks) version
    ∙ ap (λ b. versions_at q (table_among (table_of key) old).tracks ++ cond b (version ∷ []) []) (same_either_way key q))
versions_in_table key version old new q false e versions others =
    nothing (same q key) (versions_at q (table_among (table_of q) old).tracks) (versions_at q (table_among (table_of q) new).tracks) version (other_key key q e)
    (ap (λ (t : TableKept). versions_at q t.tracks) (others (table_of q) e))

-- each key of the shard has the version that the change gives it
more_versions : (position : ℕ) (key : Text) (value : Option Text) (old new : Kept) (q : Text) (b : Bool) → has_table old (table_of key) ≡ b → MatchBool b (IsEntered position key value old.tables new.tables) (IsKept old.tables new.tables) →
    has_table old (table_of q) ≡ true → versions_at q (table_in (table_of q) new).tracks ≡ versions_at q (table_in (table_of q) old).tracks ++ cond (same q key) (record { position = position; value = value } ∷ []) []
more_versions position key value old new q true e change own =
    versions_in_table key (record { position = position; value = value }) old.tables new.tables q (same (table_of key) (table_of q)) refl change.versions change.others
more_versions position key value old new q false e change own =
    nothing (same q key) (versions_at q (table_in (table_of q) old).tracks) (versions_at q (table_in (table_of q) new).tracks) (record { position = position; value = value }) (other_key key q (other_shard old key (table_of q) e own))
    (change.versions (table_of q) q)

changes_in_table : (position : ℕ) (key : Text) (old new : Tables) (table : Text) (b : Bool) → same (table_of key) table ≡ b →
    (table_among (table_of key) new).changes ≡ (table_among (table_of key) old).changes ++ record { position = position; key = key } ∷ [] → ((q : Text) → same (table_of key) q ≡ false → table_among q new ≡ table_among q old) →
    (table_among table new).changes ≡ (table_among table old).changes ++ cond b (record { position = position; key = key } ∷ []) []
changes_in_table position key old new table true e changes others =
    subst (λ (t : Text). (table_among t new).changes ≡ (table_among t old).changes ++ record { position = position; key = key } ∷ []) (equal_by_same (table_of key) table e) changes
changes_in_table position key old new table false e changes others =
    ap (λ (t : TableKept). t.changes) (others table e) ∙ sym (append-nil (table_among table old).changes)

-- each table of the shard has the change
more_changes : (position : ℕ) (key : Text) (value : Option Text) (old new : Kept) (table : Text) (b : Bool) → has_table old (table_of key) ≡ b → MatchBool b (IsEntered position key value old.tables new.tables) (IsKept old.tables new.tables) →
    has_table old table ≡ true → (table_in table new).changes ≡ (table_in table old).changes ++ cond (same (table_of key) table) (record { position = position; key = key } ∷ []) []
more_changes position key value old new table true e change own =
    changes_in_table position key old.tables new.tables table (same (table_of key) table) refl change.changes change.others
more_changes position key value old new table false e change own =
    nothing (same (table_of key) table) (table_in table old).changes (table_in table new).changes (record { position = position; key = key }) (other_shard old key table e own) (change.changes table)

-- one position further
abbrev pub raised : Kept → Kept
raised kept = record { shard = kept.shard; shards = kept.shards; start = kept.start; position = kept.position + 1; tables = kept.tables }

-- a write that gives a key a value, or none
abbrev pub Gives : Write → Text → Option Text → Type 0
Gives write key value =
    ((position : ℕ) (q : Text) → version_by position q write ≡ cond (same q key) (record { position = position; value = value } ∷ []) [])
    × ((position : ℕ) (table : Text) → change_by position table write ≡ cond (same (table_of key) table) (record { position = position; key = key } ∷ []) [])

-- kept versions and changes, each with what the entry after them makes
more_said : (start n : ℕ) (q : Text) (h : History) (e : Entry) (kept new : List Version) → n ≡ length h → new ≡ kept ++ version_by (n + 1) q e.write → SayFrom start kept (versions_of q h) → SayFrom start new (versions_of q (h ++ e ∷ []))
more_said start n q h e kept new same is s =
    subst (λ vs. SayFrom start vs (versions_of q (h ++ e ∷ []))) (sym (is ∙ ap (λ m. kept ++ version_by (m + 1) q e.write) same))
    (subst (λ vs. SayFrom start (kept ++ version_by (length h + 1) q e.write) vs) (sym (versions_of-push q h e)) (say_from-append start kept (versions_of q h) (version_by (length h + 1) q e.write) s))

more_kept : (start n : ℕ) (table : Text) (h : History) (e : Entry) (kept new : List Change) → n ≡ length h → new ≡ kept ++ change_by (n + 1) table e.write → IsKeptSince (λ c. c.position) start kept (changes_of table h) →
    IsKeptSince (λ c. c.position) start new (changes_of table (h ++ e ∷ []))
more_kept start n table h e kept new same is s =
    subst (λ cs. IsKeptSince (λ (c : Change). c.position) start cs (changes_of table (h ++ e ∷ []))) (sym (is ∙ ap (λ m. kept ++ change_by (m + 1) table e.write) same))
    (subst (λ cs. IsKeptSince (λ (c : Change). c.position) start (kept ++ change_by (length h + 1) table e.write) cs) (sym (changes_of-push table h e))
    (kept_since-append (λ c. c.position) start kept (changes_of table h) (change_by (length h + 1) table e.write) s))

-- what is kept after one change more
pub stands-change : (start : ℕ) (old new : Kept) (h : History) (e : Entry) (key : Text) (value : Option Text) → Gives e.write key value → IsChanged (old.position + 1) key value old new →
    new.position ≡ old.position → new.shard ≡ old.shard → new.shards ≡ old.shards → StandsFor start old h → StandsFor start (raised new) (h ++ e ∷ [])
stands-change start old new h e key value gives change position shard shards s =
    record {
      same_length = ap (λ n. n + 1) (position ∙ s.same_length) ∙ sym (length-append h (e ∷ []));
      versions = λ q own.
          let mine = same_shard old new (table_of q) shard shards own in
          more_said start old.position q h e (versions_at q (table_in (table_of q) old).tracks) (versions_at q (table_in (table_of q) new).tracks) s.same_length
          (more_versions (old.position + 1) key value old new q (has_table old (table_of key)) refl change mine
          ∙ ap (λ vs. versions_at q (table_in (table_of q) old).tracks ++ vs) (sym (gives.0 (old.position + 1) q))) (s.versions q mine);
      changes = λ table own.
          let mine = same_shard old new table shard shards own in
          more_kept start old.position table h e (table_in table old).changes (table_in table new).changes s.same_length
          (more_changes (old.position + 1) key value old new table (has_table old (table_of key)) refl change mine
          ∙ ap (λ cs. (table_in table old).changes ++ cs) (sym (gives.1 (old.position + 1) table))) (s.changes table mine);
    }

-- what is kept after a declaration
pub stands-declared : (start : ℕ) (old : Kept) (h : History) (e : Entry) → ((position : ℕ) (q : Text) → version_by position q e.write ≡ []) → ((position : ℕ) (table : Text) → change_by position table e.write ≡ []) →
    StandsFor start old h → StandsFor start (raised old) (h ++ e ∷ [])
stands-declared start old h e versions changes s =
    record {
      same_length = ap (λ n. n + 1) s.same_length ∙ sym (length-append h (e ∷ []));
      versions = λ q own.
          let kept = versions_at q (table_in (table_of q) old).tracks in
          more_said start old.position q h e kept kept s.same_length (sym (append-nil kept) ∙ ap (λ vs. kept ++ vs) (sym (versions (old.position + 1) q))) (s.versions q own);
      changes = λ table own.
          let kept = (table_in table old).changes in
          more_kept start old.position table h e kept kept s.same_length (sym (append-nil kept) ∙ ap (λ cs. kept ++ cs) (sym (changes (old.position + 1) table))) (s.changes table own);
    }
