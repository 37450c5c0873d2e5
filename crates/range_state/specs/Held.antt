-- What is kept in code, as a kept range of the definitions.
use Rattle.std.specs.Prelude.{◌≡◌, ℕ, ◌≤◌, [], length, true, false, Option, Some, None}
use Rattle.std.specs.List.{AllByRecursion}
use Rattle.semantics.specs.Texts.{Range}
use Rattle.semantics.specs.Joins.{is_aggregate, Join, value_operator}
use Rattle.agg_rows.specs.Kept.{KeptGroups, Groups}
use Rattle.kept_ranges.specs.Kept.{Kept}
use Rattle.kept_ranges.specs.Notes.{Mark, key, slots, note_limit}
use Rattle.kept_ranges.specs.Sound.{KeptRange}
use Rattle.range_state.specs.declared.holding.Holding.{Holding}
use Rattle.range_state.specs.declared.subject.Subject.{Subject}

-- a kept range that stands nowhere, for which nothing is kept
abbrev pub forgotten : Join → ℕ → Range → KeptRange
forgotten j rank range =
    record {
      join = j;
      rank = rank;
      range = range;
      position = None;
      kept = record { rows = []; needs = []; pending = [] };
      groups = [];
      notes = record { start = 0; list = [] };
    }

-- the groups, where there are any
abbrev pub groups_of : Option KeptGroups → Groups
groups_of None = []
groups_of (Some kept) = kept.groups

-- what is kept at a position, without the groups
abbrev pub kept_of : Holding → Kept
kept_of held = record { rows = held.rows.pairs; needs = held.rows.needs; pending = held.pending.noted }

-- the kept range of which this is held
abbrev pub range_kept : Subject → Holding → KeptRange
range_kept subject held =
    record {
      join = subject.join;
      rank = subject.rank;
      range = subject.range;
      position = Some held.position;
      kept = kept_of held;
      groups = groups_of held.groups;
      notes = held.notes;
    }

-- the kept range of what is held, if anything is
abbrev pub view_of : Subject → Option Holding → KeptRange
view_of subject None = forgotten subject.join subject.rank subject.range
view_of subject (Some held) = range_kept subject held

-- the groups of a join: an aggregate has them, for its operator, and no other join has
abbrev pub FitsGroups : Join → Option KeptGroups → Type 0
FitsGroups j None = is_aggregate (value_operator j) ≡ false
FitsGroups j (Some kept) = (is_aggregate (value_operator j) ≡ true) × (kept.operator ≡ value_operator j)

-- slots have 16 places
abbrev pub HasPlaces : Mark → Type 0
HasPlaces (key k) = Unit {0}
HasPlaces (slots s) = length s ≡ 16

-- what is held is of the join: pending slots are of its output, it has the join's groups, the slots that are noted have 16 places, and there are no more notes than are kept at most
pub record FitsJoin (j : Join) (held : Holding) : Type 0 where
  pub output : held.pending.output ≡ j.output
  pub groups : FitsGroups j held.groups
  pub places : AllByRecursion (λ note. HasPlaces note.mark) held.notes.list
  pub few : length held.notes.list ≤ note_limit
