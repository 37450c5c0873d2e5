-- Sets of joins with their ranks, and the state: whole tables, rank by rank.
use Rattle.std.specs.Prelude.{◌≡◌, ℕ, zero, suc, ◌≤◌, ◌==◌, List, [], ◌∷◌, length, map, filter, filter_map, flat_map, fold, true, false, if◌then◌else◌, Option, Some, None, zip}
use Rattle.std.specs.List.{enumerate_from, AllByRecursion}
use Rattle.semantics.specs.Texts.{Table, with_pair}
use Rattle.semantics.specs.Patterns.{overlaps}
use Rattle.semantics.specs.Joins.{Join, reads_output, keeps_slot_rule, keeps_source_rule}
use Rattle.semantics.specs.Histories.{History, DeclaredJoin, joins_of, visible}
use Rattle.semantics.specs.Outputs.{out}
use Rattle.semantics.specs.Graphs.{Edges, ranks, IsAcyclic}

-- the pair of places, where the join at the first reads the one at the second
abbrev edge_between : ℕ × DeclaredJoin → ℕ × DeclaredJoin → Option (ℕ × ℕ)
edge_between a b = if reads_output a.1.join b.1.join then Some (a.0, b.0) else None

-- the reading of a set of joins, which are numbered from 0 in order of position
unfoldable pub reading : List DeclaredJoin → Edges
reading joins = flat_map (λ a. filter_map (edge_between a) (enumerate_from 0 joins)) (enumerate_from 0 joins)

-- the ranks of a set's joins, in order
abbrev pub ranks_of : List DeclaredJoin → List ℕ
ranks_of joins = ranks (length joins) (reading joins)

-- the joins of a rank, in order of position
abbrev pub of_rank : ℕ → List DeclaredJoin → List DeclaredJoin
of_rank r joins = map (λ p. p.1) (filter (λ p. p.0 == r) (zip (ranks_of joins) joins))

-- a table with the pairs of another
abbrev pub merged : Table → Table → Table
merged table pairs = fold (λ t pair. with_pair pair.0 pair.1 t) table pairs

-- a table with the outputs that joins have over it
abbrev pub with_outputs : List DeclaredJoin → Table → Table
with_outputs joins table = fold (λ t s. merged t (out s.join table)) table joins

-- `Below`: what is visible, with the outputs of the joins below a rank, rank by rank upwards
unfoldable pub below : History → ℕ → Table
below h zero = visible h
below h (suc r) = with_outputs (of_rank r (joins_of h)) (below h r)

-- `State`: ranks are at most 7
unfoldable pub state : History → Table
state h = below h 8

-- ---- `Admissible`

-- the join meets the rules on slots and on sources
pub record KeepsRules (j : Join) : Type 0 where
  pub slots : keeps_slot_rule j ≡ true
  pub sources : keeps_source_rule j ≡ true

-- no output overlaps a later one
abbrev pub AreApart : List DeclaredJoin → Type 0
AreApart [] = Unit {0}
AreApart (s ∷ ss) = AllByRecursion (λ other. overlaps s.join.output other.join.output ≡ false) ss × AreApart ss

-- a set of joins that may stand
pub record IsAdmissible (joins : List DeclaredJoin) : Type 0 where
  pub rules : AllByRecursion (λ s. KeepsRules s.join) joins
  pub apart : AreApart joins
  pub acyclic : IsAcyclic (reading joins)
  pub shallow : AllByRecursion (λ r. r ≤ 7) (ranks_of joins)
  pub few : length joins ≤ 64
