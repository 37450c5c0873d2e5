-- Further laws on what a join makes of a table.
use Rattle.std.specs.Prelude.{◌≡◌, ◌≢◌, ◌↔◌, List, [], ◌∷◌, Contains, true, IsTrue, IsPermutation}
use Rattle.std.specs.List.{AllByRecursion}
use Rattle.std.specs.FinMap.Entries.{is_sorted}
use Rattle.semantics.specs.Texts.{Text, text_cmp, Table, value_at}
use Rattle.semantics.specs.Patterns.{Slots, Fits, IsPartOf}
use Rattle.semantics.specs.Joins.{Operator, copy, Source, Join, is_join, evaluation_order, value_operator}
use Rattle.semantics.specs.Outputs.{Match, matches, contributions, listed, result_of, gathered, out}
use Rattle.semantics.specs.States.{KeepsRules}

-- what a join makes has at each key the result of the values that are listed there, and nothing where nothing comes of them
abbrev pub OutAtKey : Type 0
OutAtKey = (j : Join) (table : Table) (key : Text) →
    value_at key (out j table) ≡ result_of (value_operator j) (listed key (contributions j table))

-- the keys of what a join makes ascend, each once
abbrev pub OutIsSorted : Type 0
OutIsSorted = (j : Join) (table : Table) → IsTrue (is_sorted text_cmp (out j table))

-- ---- the order of the matches

-- what an operator other than `copy` makes does not depend on the order of what is given
abbrev pub ResultIgnoresOrder : Type 0
ResultIgnoresOrder = (operator : Operator) (given other : List (Text × Text)) → operator ≢ copy → IsPermutation given other →
    gathered operator given ≡ gathered operator other

-- what a join that keeps the rules makes does not depend on the order of its matches
abbrev pub OutIgnoresAnyOrder : Type 0
OutIgnoresAnyOrder = (j : Join) (table : Table) (given : List (Text × Text)) → is_join j ≡ true → KeepsRules j →
    IsTrue (is_sorted text_cmp table) → IsPermutation (contributions j table) given → gathered (value_operator j) given ≡ out j table

-- ---- matches as a relation

-- there is a pair for each source, whose key fits it under the slots
abbrev pub FitEach : List Source → Table → Slots → Type 0
FitEach [] [] given = Unit {0}
FitEach [] (pair ∷ pairs) given = ⊥
FitEach (s ∷ ss) [] given = ⊥
FitEach (s ∷ ss) (pair ∷ pairs) given = Fits s.pattern pair.0 given × FitEach ss pairs given

-- the pairs stand in the table, and there are slots under which their keys fit the sources, one each
pub record IsCommonFit (j : Join) (table pairs : Table) : Type 0 where
  pub stored : AllByRecursion (Contains table) pairs
  pub given : Slots
  pub fit : FitEach (evaluation_order j) pairs given

-- a match of the join has the pairs
pub record IsMatched (j : Join) (table pairs : Table) : Type 0 where
  pub found : Match
  pub matched : Contains (matches j table) found
  pub has : found.pairs ≡ pairs

-- pairs are a match exactly where they stand in the table and their keys fit under common slots
abbrev pub MatchIsCommonFit : Type 0
MatchIsCommonFit = (j : Join) (table pairs : Table) → is_join j ≡ true → IsMatched j table pairs ↔ IsCommonFit j table pairs

-- the keys fit under these slots, which are a part of all under which they do
pub record AreLeastFor (j : Join) (pairs : Table) (given : Slots) : Type 0 where
  pub fit : FitEach (evaluation_order j) pairs given
  pub least : (other : Slots) → FitEach (evaluation_order j) pairs other → IsPartOf given other

-- the slots of a match are the least under which its keys fit
abbrev pub MatchHasLeastSlots : Type 0
MatchHasLeastSlots = (j : Join) (table : Table) (m : Match) → is_join j ≡ true → Contains (matches j table) m → AreLeastFor j m.pairs m.slots
