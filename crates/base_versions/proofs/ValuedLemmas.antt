-- Changed keys with what stands there.
use Rattle.std.proofs.Common.{◌≡◌, ℕ, ◌≤◌, List, [], ◌∷◌, ◌++◌, map, take, true, Option, Some, None, IfSome, Result, Ok, Err, IfOk, refl, ap, ◌∙◌, subst}
use Rattle.std.specs.List.{AllByRecursion}
use Rattle.semantics.specs.Texts.{Text, Table, Range, is_range, table_of, value_at, within}
use Rattle.semantics.specs.Histories.{History, base_of}
use Rattle.semantics.proofs.MemberLemmas.{Has, contains_from_has, has_mapped}
use Rattle.growing_history.specs.Changes.{changed_keys}
use Rattle.growing_history.proofs.ChangeLemmas.{changed_keys_are_written}
use Rattle.growing_history.proofs.ElementLemmas.{all_from_has, has_of_all}
use Rattle.growing_history.specs.StateChanges.{Change, change_to}
use Rattle.base_versions.specs.Kept.{TableKept, Kept, table_in, has_table, StandsFor}
use Rattle.base_versions.specs.Versions.{versions_at}
use Rattle.base_versions.specs.Valued.{HasVersion, base_changes}
use Rattle.base_versions.proofs.StandsLemmas.{said_versions}
use Rattle.base_versions.proofs.VersionLemmas.{ascend-say_from, value_in-say_from}

-- what holds of elements, and of one more, holds of all of them
pub all_and_one : {A : Type 0} (P : A → Type 0) (xs : List A) (x : A) → AllByRecursion P xs → P x → AllByRecursion P (xs ++ x ∷ [])
all_and_one P [] x all one = (one, tt)
all_and_one P (y ∷ ys) x all one = (all.0, all_and_one P ys x all.1 one)

-- changes that have the values of a table are what the table makes of their keys
pub changes_of_keys : (table : Table) (changes : List Change) → AllByRecursion (λ c. c.value ≡ value_at c.key table) changes → changes ≡ map (change_to table) (map (λ c. c.key) changes)
changes_of_keys table [] all = refl
changes_of_keys table (c ∷ cs) all =
    let one : c ≡ change_to table c.key = ap (λ v. record { key = c.key; value = v }) all.0 in
    λ i. one i ∷ changes_of_keys table cs all.1 i

-- found keys of a range, with what their versions say, have the values of their base pairs
pub base_changes_found : (start : ℕ) (kept : Kept) (h : History) (r : Range) (q p : ℕ) (table : TableKept) (found : List Change) → StandsFor start kept h → start ≤ p → has_table kept (table_of r.low) ≡ true → is_range r.low r.high ≡ true →
    table_in (table_of r.low) kept ≡ table → map (λ c. c.key) found ≡ changed_keys q p r h → AllByRecursion (HasVersion p table.tracks) found → found ≡ base_changes q p r h
base_changes_found start kept h r q p table found s g own ok is keys values =
    let base = base_of (take p h) in
    changes_of_keys base found (all_from_has (λ c. c.value ≡ value_at c.key base) found (λ c has.
    let listed = contains_from_has (changed_keys q p r h) c.key (subst (λ (ks : List Text). Has ks c.key) keys (has_mapped (λ (d : Change). d.key) found c has)) in
    let inside : within r c.key ≡ true = ((changed_keys_are_written q p r h c.key).0 listed).0 in
    let said = said_versions start kept h r table s own ok is c.key inside in
    let versions = versions_at c.key table.tracks in
    has_of_all (HasVersion p table.tracks) found c values has (ascend-say_from start versions c.key h said) ∙ value_in-say_from start versions c.key h p said g))
    ∙ ap (map (change_to base)) keys

-- two things that hold of a value hold of it both
pub if_ok_both : {A E : Type 0} (r : Result A E) (P Q : A → Type 0) → IfOk r P → IfOk r Q → IfOk r (λ x. P x × Q x)
if_ok_both (Ok x) P Q p q = (p, q)
if_ok_both (Err e) P Q p q = tt

pub if_some_both : {A : Type 0} (o : Option A) (P Q : A → Type 0) → IfSome o P → IfSome o Q → IfSome o (λ x. P x × Q x)
if_some_both (Some x) P Q p q = (p, q)
if_some_both None P Q p q = tt
