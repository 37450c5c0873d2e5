-- Maps from tables to positions, and the last drops that they list.
use Rattle.std.proofs.Common.{◌≡◌, ℕ, ◌≤◌, ◌<◌, List, [], ◌∷◌, map, max, Bool, true, false, cond, if◌then◌else◌, Some, refl, sym, ap, ◌∙◌, arith, Less, is_lt, is_eq}
use Rattle.std.specs.List.{AllByRecursion}
use Rattle.std.specs.List.Sorted.{IsStrictlySortedBy}
use Rattle.std.specs.Map.{lookup, keys_of}
use Rattle.std.specs.BTreeMap.{BTreeMap, is_at, get_by_text, UpdatesBy}
use Rattle.std.specs.Cmp.Lexicographic.{slice_cmp}
use Rattle.std.specs.Option.{unwrap_or}
use Rattle.std.specs.Ordering.{nat_cmp}
use Rattle.std.specs.String.{string_bytes, string_cmp}
use Rattle.std.specs.declared.string.String.{String}
use Rattle.std.proofs.lemmas.Bool.{false≢true, false_from_ne_true}
use Rattle.std.proofs.lemmas.Option.{none-some, same_Some}
use Rattle.std.proofs.lemmas.Map.Keys.{sorted_head, sorted_tail}
use Rattle.std.proofs.lemmas.Map.Text.{btree_map_updates_text}
use Rattle.semantics.specs.Texts.{Text, same, text_cmp}
use Rattle.semantics.specs.Patterns.{Pattern, literal, slot}
use Rattle.semantics.proofs.PieceLemmas.{equal_by_same, same_by_equal}
use Rattle.semantics.proofs.TableLemmas.{same_is_tie, tie_itself}
use Rattle.growing_history.specs.Changes.{has_table}
use Rattle.join_set.specs.Sets.{LastDrop, last_drop, position_of, table_of_keys}
use Rattle.join_set.specs.Timelines.{end_of}

-- ---- a map of which a position is raised

-- to one that is not greater
pub raised_early : {A : Type 0} (table : Text) (end last : ℕ) (ends : BTreeMap (String A) ℕ) → last ≡ end_of table ends → end ≤ last → (q : Text) → end_of q ends ≡ max (end_of q ends) (if same table q then end else 0)
raised_early table end last ends known low q = by (same table q) refl
  where
    by : (b : Bool) → same table q ≡ b → end_of q ends ≡ max (end_of q ends) (if b then end else 0)
    by true is = let at = known ∙ ap (λ t. end_of t ends) (equal_by_same table q is) in let greater : end_of q ends ≡ max (end_of q ends) end = omega (arith, low, at) in greater
    by false is = let same_end : end_of q ends ≡ max (end_of q ends) 0 = omega arith in same_end

-- to one that is greater
pub raised_late : {A : Type 0} (table name : Text) (end last : ℕ) (old new : BTreeMap (String A) ℕ) → last ≡ end_of table old → last < end → name ≡ table →
    UpdatesBy string_cmp (λ k. slice_cmp nat_cmp name (string_bytes k)) old new (Some end) → (q : Text) → end_of q new ≡ max (end_of q old) (if same table q then end else 0)
raised_late table name end last old new known high is updates q =
    ap (λ o. unwrap_or o 0) (btree_map_updates_text name old new (Some end) updates q) ∙ ap (λ t. unwrap_or (cond (same t q) (Some end) (get_by_text old q)) 0) is ∙ by (same table q) refl
  where
    by : (b : Bool) → same table q ≡ b → unwrap_or (cond b (Some end) (get_by_text old q)) 0 ≡ max (end_of q old) (if b then end else 0)
    by true found = let at = known ∙ ap (λ t. end_of t old) (equal_by_same table q found) in let greater : end ≡ max (end_of q old) end = omega (arith, high, at) in greater
    by false found = let same_end : end_of q old ≡ max (end_of q old) 0 = omega arith in same_end

-- ---- the table of a pattern's keys

-- a table that the keys of a pattern are of is theirs
pub table_is : (output : Pattern) (table q : Text) → table_of_keys output ≡ Some table → has_table output q ≡ same table q
table_is [] table q is = absurd (none-some table is)
table_is (literal l ∷ ss) table q is = ap (λ t. same t q) (same_Some l table is)
table_is (slot place width ∷ ss) table q is = absurd (none-some table is)

-- ---- a map as a list

-- the last drops of a map's entries
abbrev pub listed : {A : Type 0} → List (String A × ℕ) → List LastDrop
listed entries = map (λ e. record { table = string_bytes e.0; position = e.1 }) entries

-- a text that is above another is not the same
apart : (t u : Text) → text_cmp t u ≡ Less → same u t ≡ false
apart t u above = false_from_ne_true (same u t) (λ is. false≢true (sym (ap is_lt (sym above ∙ ap (text_cmp t) (equal_by_same u t is) ∙ tie_itself t))))

-- behind the entry of a table there is none of it
none_behind : {A : Type 0} (first : String A) (table : Text) (entries : List (String A × ℕ)) → string_bytes first ≡ table → AllByRecursion (λ k. string_cmp first k ≡ Less) (keys_of entries) → last_drop table (listed entries) ≡ 0
none_behind first table [] is above = refl
none_behind first table (e ∷ entries) is above =
    let other : same (string_bytes e.0) table ≡ false = sym (ap (same (string_bytes e.0)) is) ∙ apart (string_bytes first) (string_bytes e.0) above.0 in
    let here : position_of table (record { table = string_bytes e.0; position = e.1 }) ≡ 0 = ap (λ b. cond b e.1 0) other in
    let rest = none_behind first table entries is above.1 in
    omega (arith, here, rest)

-- a look-up of a table finds the last drop of it
pub listed_tells : {A : Type 0} (table : Text) (entries : List (String A × ℕ)) → IsStrictlySortedBy string_cmp (keys_of entries) →
    last_drop table (listed entries) ≡ unwrap_or (lookup (is_at (λ k. slice_cmp nat_cmp table (string_bytes k))) entries) 0
listed_tells table [] sorted = refl
listed_tells table (e ∷ entries) sorted = by (same (string_bytes e.0) table) refl (listed_tells table entries (sorted_tail string_cmp e.0 (keys_of entries) sorted))
  where
    by : (b : Bool) → same (string_bytes e.0) table ≡ b → last_drop table (listed entries) ≡ unwrap_or (lookup (is_at (λ k. slice_cmp nat_cmp table (string_bytes k))) entries) 0 →
        max (position_of table (record { table = string_bytes e.0; position = e.1 })) (last_drop table (listed entries))
        ≡ unwrap_or (cond (is_eq (text_cmp table (string_bytes e.0))) (Some e.1) (lookup (is_at (λ k. slice_cmp nat_cmp table (string_bytes k))) entries)) 0
    by true is rest =
        let same_text = equal_by_same (string_bytes e.0) table is in
        let found : is_eq (text_cmp table (string_bytes e.0)) ≡ true = sym (same_is_tie table (string_bytes e.0)) ∙ same_by_equal table (string_bytes e.0) (sym same_text) in
        let here : position_of table (record { table = string_bytes e.0; position = e.1 }) ≡ e.1 = ap (λ b. cond b e.1 0) is in
        let behind = none_behind e.0 table entries same_text (sorted_head string_cmp e.0 (keys_of entries) sorted) in
        let only : max (position_of table (record { table = string_bytes e.0; position = e.1 })) (last_drop table (listed entries)) ≡ e.1 = omega (arith, here, behind) in
        only ∙ sym (ap (λ b. unwrap_or (cond b (Some e.1) (lookup (is_at (λ k. slice_cmp nat_cmp table (string_bytes k))) entries)) 0) found)
    by false is rest =
        let missed : is_eq (text_cmp table (string_bytes e.0)) ≡ false = sym (same_is_tie table (string_bytes e.0))
        ∙ false_from_ne_true (same table (string_bytes e.0)) (λ t. false≢true (sym is ∙ same_by_equal (string_bytes e.0) table (sym (equal_by_same table (string_bytes e.0) t)))) in
        let here : position_of table (record { table = string_bytes e.0; position = e.1 }) ≡ 0 = ap (λ b. cond b e.1 0) is in
        let others : max (position_of table (record { table = string_bytes e.0; position = e.1 })) (last_drop table (listed entries)) ≡ last_drop table (listed entries) = omega (arith, here) in
        others ∙ rest ∙ sym (ap (λ b. unwrap_or (cond b (Some e.1) (lookup (is_at (λ k. slice_cmp nat_cmp table (string_bytes k))) entries)) 0) missed)
