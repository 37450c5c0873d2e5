-- Laws on what changed between two positions.
use Rattle.std.specs.Prelude.{◌≡◌, ◌≢◌, ◌↔◌, ℕ, List, map, take, Contains, true, IsTrue}
use Rattle.std.specs.List.{AllByRecursion}
use Rattle.std.specs.List.Sorted.{IsStrictlySortedBy}
use Rattle.std.specs.FinMap.Entries.{is_sorted}
use Rattle.semantics.specs.Texts.{Text, text_cmp, Range, within, Table, value_at, pairs_within}
use Rattle.semantics.specs.Histories.{History}
use Rattle.semantics.specs.States.{state}
use Rattle.growing_history.specs.StateChanges.{Change, changes_among, changes_between, changes, with_changes}

-- setting and taking out the listed keys turns the earlier pairs of the range into the later ones
abbrev pub ChangesTurn : Type 0
ChangesTurn = (range : Range) (h : History) (q p : ℕ) →
    with_changes (changes range h q p) (pairs_within range (state (take q h))) ≡ pairs_within range (state (take p h))

-- the keys that are listed ascend, each once
abbrev pub ChangesAscend : Type 0
ChangesAscend = (range : Range) (h : History) (q p : ℕ) → IsStrictlySortedBy text_cmp (map (λ change. change.key) (changes range h q p))

-- a key lies in the range, has another pair at the earlier position, and this value, or none, at the later one
pub record IsChange (range : Range) (h : History) (q p : ℕ) (change : Change) : Type 0 where
  pub inside : within range change.key ≡ true
  pub later : change.value ≡ value_at change.key (state (take p h))
  pub other : value_at change.key (state (take q h)) ≢ change.value

-- exactly such keys are listed, with their values
abbrev pub ChangesAreThose : Type 0
ChangesAreThose = (range : Range) (h : History) (q p : ℕ) (change : Change) → Contains (changes range h q p) change ↔ IsChange range h q p change

-- the keys ascend and lie in the range, and among them is each key of the range at which the tables differ
pub record HoldAllChanges (range : Range) (before after : Table) (keys : List Text) : Type 0 where
  pub ascend : IsStrictlySortedBy text_cmp keys
  pub inside : AllByRecursion (λ key. within range key ≡ true) keys
  pub complete : (key : Text) → within range key ≡ true → (Contains keys key → ⊥) → value_at key before ≡ value_at key after

-- who looks at such keys alone finds all that changed
abbrev pub ChangesAmongKeys : Type 0
ChangesAmongKeys = (range : Range) (before after : Table) (keys : List Text) → IsTrue (is_sorted text_cmp before) → IsTrue (is_sorted text_cmp after) →
    HoldAllChanges range before after keys → changes_among keys before after ≡ changes_between range before after

-- who looks at the pairs of the range alone finds it too
abbrev pub ChangesOfPairs : Type 0
ChangesOfPairs = (range : Range) (before after : Table) → IsTrue (is_sorted text_cmp before) → IsTrue (is_sorted text_cmp after) →
    changes_between range (pairs_within range before) (pairs_within range after) ≡ changes_between range before after
