-- What changed in a range, by what changed in its table.
use Rattle.std.proofs.Common.{◌≡◌, ℕ, Bool, true, false, cond, List, [], ◌∷◌, map, filter, take, refl, sym, ap, ◌∙◌, subst}
use Rattle.std.specs.List.Sorted.{IsStrictlySortedBy}
use Rattle.std.proofs.lemmas.List.Kept.{IsStrictlySortedBy-filter}
use Rattle.semantics.specs.Texts.{Text, Table, Range, text_cmp, within}
use Rattle.semantics.specs.Histories.{History, base_of}
use Rattle.semantics.proofs.MemberLemmas.{has_from_contains, contains_from_has, has_filter, has_filtered}
use Rattle.growing_history.specs.Changes.{changed_keys}
use Rattle.growing_history.proofs.ChangeLemmas.{changed_keys_ascend, changed_keys_are_written}
use Rattle.growing_history.proofs.SortedLemmas.{same_sorted}
use Rattle.growing_history.specs.StateChanges.{Change, change_to}
use Rattle.base_versions.specs.Valued.{base_changes}
use Rattle.join_eval.specs.Answers.{change_keys}
use Rattle.join_eval.proofs.ValueLemmas.{keys_of_valued}
use Rattle.layering.specs.Parts.{IsWithin}
use Rattle.layering.proofs.PartLemmas.{within_is_kept}
use Rattle.shared_reader.specs.Known.{KnownView, IsKnownIn, Covers}

-- of the changed keys of a range those in a part of it are the part's changed keys
of_whole : (q p : ℕ) (part whole : Range) (h : History) → IsWithin part whole → filter (within part) (changed_keys q p whole h) ≡ changed_keys q p part h
of_whole q p part whole h lies =
    let all = changed_keys q p whole h in
    let own = changed_keys q p part h in
    same_sorted (filter (within part) all) own (IsStrictlySortedBy-filter text_cmp (within part) all (changed_keys_ascend q p whole h)) (changed_keys_ascend q p part h)
    (λ key there.
    let found = has_filter (within part) all key there in
    let written = (changed_keys_are_written q p whole h key).0 (contains_from_has all key found.1) in
    has_from_contains own key ((changed_keys_are_written q p part h key).1 (found.0, written.1)))
    (λ key there.
    let written = (changed_keys_are_written q p part h key).0 (contains_from_has own key there) in
    has_filtered (within part) all key written.0 (has_from_contains all key ((changed_keys_are_written q p whole h key).1 (within_is_kept part whole key lies written.0, written.1))))

-- of changes made of keys those at keys in a range are made of the keys in it
within_by : (b : Bool) (table : Table) (k : Text) (cs : List Change) (ks : List Text) → cs ≡ map (change_to table) ks → cond b (change_to table k ∷ cs) cs ≡ map (change_to table) (cond b (k ∷ ks) ks)
within_by true table k cs ks is = ap (λ rest. change_to table k ∷ rest) is
within_by false table k cs ks is = is

made_within : (range : Range) (table : Table) (keys : List Text) → filter (λ c. within range c.key) (map (change_to table) keys) ≡ map (change_to table) (filter (within range) keys)
made_within range table [] = refl
made_within range table (k ∷ ks) = within_by (within range k) table k (filter (λ c. within range c.key) (map (change_to table) ks)) (filter (within range) ks) (made_within range table ks)

-- of the known changes of a table those in a range of it are the range's changes
pub known_part : (known : KnownView) (q p : ℕ) (range : Range) (h : History) → Covers known q p range → IsKnownIn known h → filter (λ c. within range c.key) known.changes ≡ base_changes q p range h
known_part known q p range h covers is =
    ap (filter (λ c. within range c.key)) (is ∙ ap (λ n. base_changes n known.p known.table h) (sym covers.same_q) ∙ ap (λ n. base_changes q n known.table h) (sym covers.same_p))
    ∙ made_within range (base_of (take p h)) (changed_keys q p known.table h)
    ∙ ap (map (change_to (base_of (take p h)))) (of_whole q p range known.table h covers.inside)

-- the keys of known changes stand in order
pub known_ascend : (known : KnownView) (h : History) → IsKnownIn known h → IsStrictlySortedBy text_cmp (change_keys known.changes)
known_ascend known h is =
    subst (IsStrictlySortedBy text_cmp) (sym (keys_of_valued (base_of (take known.p h)) (changed_keys known.q known.p known.table h) known.changes is)) (changed_keys_ascend known.q known.p known.table h)
