-- Writes, entries and the history; the joins that stand and the base pairs are folds over it.
use Rattle.std.specs.Prelude.{◌≡◌, ℕ, ◌+◌, ◌==◌, List, [], ◌∷◌, ◌++◌, filter, fold, Bool, true, false, not, if◌then◌else◌}
use Rattle.std.specs.List.{list_any}
use Rattle.semantics.specs.Texts.{Text, Table, with_pair, without_key, pairs_where}
use Rattle.semantics.specs.Patterns.{fits}
use Rattle.semantics.specs.Joins.{Join}

pub data Write : Type 0 where
  put : Text → Text → Write
  remove : Text → Write
  declare : Join → Write
  drop_join : ℕ → Write

-- an entry: the number of the client that wrote it, and the write
pub record Entry : Type 0 where
  pub client : ℕ
  pub write : Write

-- the history: entries in order, their positions counted from 1
abbrev pub History : Type 0
History = List Entry

-- the second history begins with the first
abbrev pub IsPrefix : History → History → Type 0
IsPrefix before after = (more : History) × (after ≡ before ++ more)

-- a join that stands is named by the position of its declaration
pub record DeclaredJoin : Type 0 where
  pub position : ℕ
  pub join : Join

-- joins without the one that was declared at a position
abbrev pub without : ℕ → List DeclaredJoin → List DeclaredJoin
without position joins = filter (λ s. not (s.position == position)) joins

-- the joins that stand after a write that enters at a position
abbrev pub joins_after : ℕ → Write → List DeclaredJoin → List DeclaredJoin
joins_after position (put k v) joins = joins
joins_after position (remove k) joins = joins
joins_after position (declare j) joins = joins ++ record { position = position; join = j } ∷ []
joins_after position (drop_join at) joins = without at joins

-- the joins that stand after entries that begin at a position
abbrev pub joins_from : ℕ → List DeclaredJoin → History → List DeclaredJoin
joins_from position joins [] = joins
joins_from position joins (e ∷ es) = joins_from (position + 1) (joins_after position e.write joins) es

-- `Joins`: the joins that were declared and not dropped, in order of position
abbrev pub joins_of : History → List DeclaredJoin
joins_of h = joins_from 1 [] h

-- whether a write changes which joins stand
abbrev pub is_of_joins : Write → Bool
is_of_joins (put k v) = false
is_of_joins (remove k) = false
is_of_joins (declare j) = true
is_of_joins (drop_join at) = true

-- the position of the last declaration or drop, of entries that begin at a position; where there is none, a given one
abbrev pub changed_from : ℕ → ℕ → History → ℕ
changed_from position last [] = last
changed_from position last (e ∷ es) = changed_from (position + 1) (if is_of_joins e.write then position else last) es

-- the position of the last declaration or drop, 0 where there is none
abbrev pub changed_at : History → ℕ
changed_at h = changed_from 1 0 h

-- the base pairs after a write
abbrev pub base_after : Write → Table → Table
base_after (put k v) table = with_pair k v table
base_after (remove k) table = without_key k table
base_after (declare j) table = table
base_after (drop_join at) table = table

-- `Base`: the pairs that the puts and removes leave
abbrev pub base_of : History → Table
base_of h = fold (λ table e. base_after e.write table) [] h

-- whether a key fits the output of a join that stands
abbrev pub is_computed : List DeclaredJoin → Text → Bool
is_computed joins key = list_any (λ s. fits s.join.output key) joins

-- `Visible`: the base pairs that no output hides
abbrev pub visible : History → Table
visible h = pairs_where (λ key. not (is_computed (joins_of h) key)) (base_of h)
