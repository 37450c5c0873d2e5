-- `Sound`: when a kept range is right for a history.
use Rattle.std.specs.Prelude.{◌≡◌, ℕ, ◌≤◌, [], length, take, true, Option, IfSome}
use Rattle.semantics.specs.Texts.{Table, Range}
use Rattle.semantics.specs.Joins.{is_aggregate, Join, value_operator}
use Rattle.semantics.specs.Histories.{History, joins_of}
use Rattle.semantics.specs.States.{below}
use Rattle.growing_history.specs.Entered.{HasRank}
use Rattle.agg_rows.specs.Kept.{Groups, pairs_of}
use Rattle.kept_ranges.specs.Kept.{Kept, IsRight}
use Rattle.kept_ranges.specs.Listing.{AreListed}
use Rattle.kept_ranges.specs.Notes.{Notes, AreInOrder, NotesHold}

-- a kept range: the join with its rank, the range, the position at which it stands, or none, what is kept, for an aggregate the groups of what is listed, and the notes
pub record KeptRange : Type 0 where
  pub join : Join
  pub rank : ℕ
  pub range : Range
  pub position : Option ℕ
  pub kept : Kept
  pub groups : Groups
  pub notes : Notes

-- for an aggregate nothing is pending, and the contributions of the table are listed
pub record IsListed (s : KeptRange) (table : Table) : Type 0 where
  pub pending : s.kept.pending ≡ []
  pub listed : AreListed s.join s.range table (λ key. pairs_of key s.groups)

-- a kept range is right at a position of a history
pub record IsSoundAt (s : KeptRange) (h : History) (q : ℕ) : Type 0 where
  pub place : q ≤ length h
  pub stands : HasRank (joins_of (take q h)) s.join s.rank
  pub right : IsRight s.join s.range (below (take q h) s.rank) s.kept
  pub listed : is_aggregate (value_operator s.join) ≡ true → IsListed s (below (take q h) s.rank)
  pub in_order : AreInOrder s.notes.start q s.notes.list
  pub noted : NotesHold s.join s.rank s.range h q s.kept.pending s.notes

-- `Sound`: a kept range that stands nowhere, or is right where it stands
abbrev pub IsSound : KeptRange → History → Type 0
IsSound s h = IfSome s.position (IsSoundAt s h)
