-- The changes of a table by groups: one more, one fewer, and those that a range needs.
use Rattle.std.proofs.Common.{◌≡◌, ◌≤◌, ℕ, ◌+◌, List, [], ◌∷◌, ◌++◌, filter, drop, Bool, true, false, cond, refl, sym, ap, ◌∙◌, inl, subst, arith}
use Rattle.std.proofs.lemmas.Bool.{false≢true, false_from_ne_true}
use Rattle.std.proofs.lemmas.List.{append-nil}
use Rattle.std.proofs.lemmas.List.Elements.{filter-append}
use Rattle.semantics.specs.Texts.{Text, same, Range, within}
use Rattle.semantics.proofs.PieceLemmas.{equal_by_same, same_by_equal}
use Rattle.growing_history.specs.Changes.{in_order}
use Rattle.base_versions.specs.declared.changes.Change.{Change}
use Rattle.base_versions.specs.Positions.{AscendBy}
use Rattle.base_versions.specs.Changes.{Ascend, changed_in, is_between, keys_within}
use Rattle.base_versions.specs.Groups.{group_of, of_group, Groups, changes_among, ByGroup, AreGrouped, AddsChange, LosesFirst, HoldsChanges}
use Rattle.base_versions.specs.Kept.{TableKept, FindsChanged}
use Rattle.base_versions.proofs.NamedLemmas.{IsSetAt}
use Rattle.base_versions.proofs.PositionLemmas.{ascend_from_less}

-- ---- the groups of a map

added_by : (name group : Text) (change : Change) (before : List Change) (old : Groups) (b : Bool) → same name group ≡ b → before ≡ changes_among name old →
    cond b (before ++ change ∷ []) (changes_among group old) ≡ cond b (changes_among group old ++ change ∷ []) (changes_among group old)
added_by name group change before old true e was = ap (λ cs. cs ++ change ∷ []) (was ∙ ap (λ n. changes_among n old) (equal_by_same name group e))
added_by name group change before old false e was = refl

-- the group of a change has it as one more
pub adds_change-from_set : (name : Text) (change : Change) (before queue : List Change) (old new : Groups) → name ≡ group_of change.key → IsSetAt [] name queue old new → before ≡ changes_among name old → queue ≡ before ++ change ∷ [] →
    AddsChange change old new
adds_change-from_set name change before queue old new is set was more = λ group.
    set group ∙ ap (λ cs. cond (same name group) cs (changes_among group old)) more ∙ added_by name group change before old (same name group) refl was
    ∙ ap (λ n. cond (same n group) (changes_among group old ++ change ∷ []) (changes_among group old)) is

lost_by : (name group : Text) (before : List Change) (old : Groups) (b : Bool) → same name group ≡ b → before ≡ changes_among name old →
    cond b (drop 1 before) (changes_among group old) ≡ cond b (drop 1 (changes_among group old)) (changes_among group old)
lost_by name group before old true e was = ap (drop 1) (was ∙ ap (λ n. changes_among n old) (equal_by_same name group e))
lost_by name group before old false e was = refl

-- a group is without its first change
pub loses_first-from_set : (name : Text) (before queue : List Change) (old new : Groups) → IsSetAt [] name queue old new → before ≡ changes_among name old → queue ≡ drop 1 before → LosesFirst name old new
loses_first-from_set name before queue old new set was less = λ group.
    set group ∙ ap (λ cs. cond (same name group) cs (changes_among group old)) less ∙ lost_by name group before old (same name group) refl was

none_by : (name group : Text) (groups : Groups) (b : Bool) → same name group ≡ b → changes_among name groups ≡ [] → changes_among group groups ≡ cond b (drop 1 (changes_among group groups)) (changes_among group groups)
none_by name group groups true e none =
    let is : changes_among group groups ≡ [] = ap (λ n. changes_among n groups) (sym (equal_by_same name group e)) ∙ none in
    is ∙ sym (ap (drop 1) is)
none_by name group groups false e none = refl

-- so is one that has none
pub loses_first-none : (name : Text) (groups : Groups) → changes_among name groups ≡ [] → LosesFirst name groups groups
loses_first-none name groups none = λ group. none_by name group groups (same name group) refl none

-- ---- the groups of a list of changes

more_by : (b : Bool) (xs ys : List Change) (c : Change) → xs ≡ ys → cond b (xs ++ c ∷ []) xs ≡ ys ++ cond b (c ∷ []) []
more_by true xs ys c e = ap (λ zs. zs ++ c ∷ []) e
more_by false xs ys c e = e ∙ sym (append-nil ys)

-- one change more
pub grouped-push : (changes : List Change) (c : Change) (old new : ByGroup) → new.kept ≡ old.kept → AddsChange c old.queues new.queues → AreGrouped old changes → AreGrouped new (changes ++ c ∷ [])
grouped-push changes c old new same_kept adds h = λ kept group.
    adds group ∙ more_by (same (group_of c.key) group) (changes_among group old.queues) (of_group group changes) c (h (sym same_kept ∙ kept) group)
    ∙ sym (filter-append (λ (x : Change). same (group_of x.key) group) changes (c ∷ []))

first_by : (b : Bool) (xs rest : List Change) (c : Change) → xs ≡ cond b (c ∷ rest) rest → cond b (drop 1 xs) xs ≡ rest
first_by true xs rest c e = ap (drop 1) e
first_by false xs rest c e = e

-- without the first change
pub grouped-first : (first : Change) (changes : List Change) (old new : ByGroup) → new.kept ≡ old.kept → LosesFirst (group_of first.key) old.queues new.queues → AreGrouped old (first ∷ changes) → AreGrouped new changes
grouped-first first changes old new same_kept loses h = λ kept group.
    loses group ∙ first_by (same (group_of first.key) group) (changes_among group old.queues) (of_group group changes) first (h (sym same_kept ∙ kept) group)

-- no changes
pub grouped-none : (groups : ByGroup) → groups.queues ≡ [] → AreGrouped groups []
grouped-none groups none = λ kept group. ap (changes_among group) none

-- groups that were let go say nothing
pub grouped-let_go : (groups : ByGroup) (changes : List Change) → groups.kept ≡ false → AreGrouped groups changes
grouped-let_go groups changes gone = λ kept. absurd (false≢true (sym gone ∙ kept))

-- ---- the changes that a range needs

passed_by : {X : Type 0} (position : X → ℕ) (low : ℕ) (x : X) (xs : List X) (b : Bool) → low ≤ position x → AscendBy position (position x + 1) xs → AscendBy position low (cond b (x ∷ xs) xs)
passed_by position low x xs true less a = (less, a)
passed_by position low x xs false less a = ascend_from_less position (position x + 1) low xs (omega arith) a

-- those that pass a test ascend
ascend-filter : {X : Type 0} (position : X → ℕ) (test : X → Bool) (low : ℕ) (xs : List X) → AscendBy position low xs → AscendBy position low (filter test xs)
ascend-filter position test low [] a = tt
ascend-filter position test low (x ∷ xs) a = passed_by position low x (filter test xs) (test x) a.0 (ascend-filter position test (position x + 1) xs a.1)

-- all keys of the range are of the group
abbrev pub IsInside : Range → Text → Type 0
IsInside r group = (key : Text) → within r key ≡ true → group_of key ≡ group

-- a key of another group lies outside
outside : (r : Range) (group key : Text) → IsInside r group → same (group_of key) group ≡ false → within r key ≡ false
outside r group key h e = false_from_ne_true (within r key) (λ inside. false≢true (sym e ∙ same_by_equal (group_of key) group (h key inside)))

step : (r : Range) (c : Change) (test : Change → Bool) (g b : Bool) (xs ys : List Change) → test c ≡ b → (g ≡ false → within r c.key ≡ false) → keys_within r (filter test xs) ≡ keys_within r (filter test ys) →
    keys_within r (filter test (cond g (c ∷ xs) xs)) ≡ keys_within r (cond b (c ∷ filter test ys) (filter test ys))
step r c test true true xs ys e out ih = ap (λ t. keys_within r (cond t (c ∷ filter test xs) (filter test xs))) e ∙ ap (λ ks. cond (within r c.key) (c.key ∷ ks) ks) ih
step r c test true false xs ys e out ih = ap (λ t. keys_within r (cond t (c ∷ filter test xs) (filter test xs))) e ∙ ih
step r c test false true xs ys e out ih = ih ∙ sym (ap (λ t. cond t (c.key ∷ keys_within r (filter test ys)) (keys_within r (filter test ys))) (out refl))
step r c test false false xs ys e out ih = ih

-- of a group's changes are all keys of a range inside it
keys_of_group : (r : Range) (group : Text) (q p : ℕ) (cs : List Change) → IsInside r group → keys_within r (filter (is_between q p) (of_group group cs)) ≡ keys_within r (filter (is_between q p) cs)
keys_of_group r group q p [] h = refl
keys_of_group r group q p (c ∷ cs) h =
    step r c (is_between q p) (same (group_of c.key) group) (is_between q p c) (of_group group cs) cs refl (outside r group c.key h) (keys_of_group r group q p cs h)

-- a group's changes are among all, for a range inside it
pub holds-group : (r : Range) (group : Text) (all : List Change) → IsInside r group → HoldsChanges r all (of_group group all)
holds-group r group all h = record {
  ascend = ascend-filter (λ (c : Change). c.position) (λ (c : Change). same (group_of c.key) group) 0 all;
  changed = λ q p. ap in_order (keys_of_group r group q p all h);
}

-- and all are
pub holds-all : (r : Range) (all : List Change) → HoldsChanges r all all
holds-all r all = record { ascend = λ a. a; changed = λ q p. refl }

-- the keys of those changes between the positions that are searched are found
pub found_by_changes : (q p : ℕ) (r : Range) (table : TableKept) (all some taken : List Change) (keys : List Text) → all ≡ table.changes → HoldsChanges r all some → Ascend 0 table.changes → (Ascend 0 some → taken ≡ filter (is_between q p) some) →
    keys ≡ in_order (keys_within r taken) → FindsChanged q p r table keys
found_by_changes q p r table all some taken keys is holds ascend exact e =
    let in_turn = holds.ascend (subst (λ (cs : List Change). Ascend 0 cs) (sym is) ascend) in
    inl (e ∙ ap (λ (cs : List Change). in_order (keys_within r cs)) (exact in_turn) ∙ holds.changed q p ∙ ap (changed_in q p r) is)
