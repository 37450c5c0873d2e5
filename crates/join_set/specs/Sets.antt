-- Sets of joins: whose output a key fits, where positions stand, and what is remembered of joins that were dropped.
use Rattle.std.specs.Prelude.{◌≡◌, ℕ, ◌≤◌, ◌==◌, ◌&&◌, List, [], ◌∷◌, ◌++◌, length, find, filter, max, Bool, not, nat_le, nat_lt, if◌then◌else◌, Option, Some, None, option_map}
use Rattle.std.specs.List.{All, list_all, list_any}
use Rattle.semantics.specs.Texts.{Text, same}
use Rattle.semantics.specs.Patterns.{Pattern, literal, slot, fits}
use Rattle.semantics.specs.Joins.{Join}
use Rattle.semantics.specs.Histories.{Write, put, remove, declare, drop_join, History, DeclaredJoin, joins_of, changed_at, without}
use Rattle.semantics.specs.Stays.{stays_of}
use Rattle.semantics.specs.States.{ranks_of, IsAdmissible}
use Rattle.semantics.specs.Verdicts.{cycle_cause, joined}
use Rattle.growing_history.specs.Changes.{has_table, bare_between}

-- the position of the join whose output the key fits
abbrev pub owner_of : Text → List DeclaredJoin → Option ℕ
owner_of key joins = option_map (λ s. s.position) (find (λ s. fits s.join.output key) joins)

-- each position of the set lies up to a position
abbrev pub AreUpTo : ℕ → List DeclaredJoin → Type 0
AreUpTo last joins = All (λ s. s.position ≤ last) joins

-- that a join with its output in a table was dropped, the last time at a position
pub record LastDrop : Type 0 where
  pub table : Text
  pub position : ℕ

-- a set of joins: those that stand, the position of the last declaration or drop, and last drops that it remembers
pub record Joins : Type 0 where
  pub standing : List DeclaredJoin
  pub changed : ℕ
  pub drops : List LastDrop

-- the set of no joins
abbrev pub no_joins : Joins
no_joins = record { standing = []; changed = 0; drops = [] }

-- the greatest of the numbers that the elements of a list have, 0 where there is none
abbrev pub greatest : {X : Type 0} → (X → ℕ) → List X → ℕ
greatest f [] = 0
greatest f (x ∷ xs) = max (f x) (greatest f xs)

-- the position of a last drop, where it is of a table; otherwise 0
abbrev pub position_of : Text → LastDrop → ℕ
position_of table d = if same d.table table then d.position else 0

-- the position of the last drop of a join of a table, 0 where none is known
abbrev pub last_drop : Text → List LastDrop → ℕ
last_drop table drops = greatest (position_of table) drops

-- whether one of the last drops is of a table
abbrev pub has_drop : Text → List LastDrop → Bool
has_drop table drops = list_any (λ d. same d.table table) drops

-- the table of the keys that fit a pattern; none where it has none
abbrev pub table_of_keys : Pattern → Option Text
table_of_keys [] = None
table_of_keys (literal l ∷ ss) = Some l
table_of_keys (slot place width ∷ ss) = None

-- the drop of a join of a table at a position, where there is a table
abbrev pub drop_at : ℕ → Option Text → List LastDrop
drop_at at None = []
drop_at at (Some table) = record { table = table; position = at } ∷ []

-- the drop, at a position, of a join that stands, where it was declared at another
abbrev pub drop_made : ℕ → ℕ → DeclaredJoin → List LastDrop
drop_made position at s = if s.position == position then drop_at at (table_of_keys s.join.output) else []

-- the drops, at a position, of the joins that were declared at another
abbrev pub drops_made : ℕ → ℕ → List DeclaredJoin → List LastDrop
drops_made position at [] = []
drops_made position at (s ∷ joins) = drop_made position at s ++ drops_made position at joins

-- the last drops once others come in the place of those of their tables
abbrev pub with_drops : List LastDrop → List LastDrop → List LastDrop
with_drops made drops = filter (λ d. not (has_drop d.table made)) drops ++ made

-- the last drops behind a floor
abbrev pub drops_behind : ℕ → List LastDrop → List LastDrop
drops_behind floor drops = filter (λ d. nat_lt floor d.position) drops

-- the set with a join more, which is declared at a position
abbrev pub with_join : ℕ → Join → Joins → Joins
with_join at j joins = record { standing = joined joins.standing at j; changed = at; drops = joins.drops }

-- the set without the join that was declared at a position, which is dropped at another
abbrev pub without_join : ℕ → ℕ → Joins → Joins
without_join position at joins = record {
  standing = without position joins.standing;
  changed = at;
  drops = with_drops (drops_made position at joins.standing) joins.drops;
}

-- the set once the drops up to a floor are forgotten
abbrev pub without_drops : ℕ → Joins → Joins
without_drops floor joins = record { standing = joins.standing; changed = joins.changed; drops = drops_behind floor joins.drops }

-- the set after a write that enters at a position
abbrev pub joins_then : ℕ → Write → Joins → Joins
joins_then at (put k v) joins = joins
joins_then at (remove k) joins = joins
joins_then at (declare j) joins = with_join at j joins
joins_then at (drop_join position) joins = without_join position at joins

-- whether no join that stood at some position from q on has its output in a table, as the set remembers it
abbrev pub bare_since : ℕ → Text → Joins → Bool
bare_since q table joins = list_all (λ s. not (has_table s.join.output table)) joins.standing && nat_le (last_drop table joins.drops) q

-- the set has the joins of a history: those that stand after it, the last declaration or drop, and from a floor on which tables are bare
pub record AreJoins (floor : ℕ) (joins : Joins) (h : History) : Type 0 where
  pub standing : joins.standing ≡ joins_of h
  pub changed : joins.changed ≡ changed_at h
  pub bare : (q : ℕ) (table : Text) → floor ≤ q → bare_since q table joins ≡ bare_between q (length h) table (stays_of h)

-- a set of joins that may stand, and their ranks
pub record IsRanked (joins : List DeclaredJoin) (ranks : List ℕ) : Type 0 where
  pub admissible : IsAdmissible joins
  pub exact : ranks ≡ ranks_of joins

-- a set as it is kept: its joins may stand and have these ranks, and each was declared up to the last declaration or drop
pub record IsSound (joins : Joins) (ranks : List ℕ) : Type 0 where
  pub ranked : IsRanked joins.standing ranks
  pub up_to : AreUpTo joins.changed joins.standing

-- the reading of the set with a new join has no cycle, and these are its ranks
pub record IsRankedWith (joins : List DeclaredJoin) (at : ℕ) (j : Join) (ranks : List ℕ) : Type 0 where
  pub acyclic : cycle_cause (length joins) (joined joins at j) ≡ None
  pub exact : ranks ≡ ranks_of (joined joins at j)
