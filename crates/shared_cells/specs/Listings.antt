-- Which ranges are listed, by their join with its rank.
use Rattle.std.specs.Prelude.{◌≡◌, ◌≢◌, ℕ, ◌||◌, List, [], Bool, true, nat_lt, unwrap_or, if◌then◌else◌}
use Rattle.std.specs.declared.cmp.Ordering.{Ordering}
use Rattle.std.specs.Ordering.{nat_cmp, on, then_cmp}
use Rattle.std.specs.BTreeMap.{is_at}
use Rattle.std.specs.BTreeSet.{contains}
use Rattle.std.specs.Map.{lookup}
use Rattle.semantics.specs.Texts.{Range}
use Rattle.key_ranges.specs.Ranges.{is_open}
use Rattle.range_set.specs.Held.{Held as Ranges, is_free, with_range, without_range}
use Rattle.cell_slots.specs.Places.{ListsInstead, ListsTheSame}
use Rattle.shared_cells.specs.declared.followed.Followed.{Followed}
use Rattle.shared_cells.specs.declared.ranked_join.RankedJoin.{RankedJoin}

-- the order of joins with their ranks
abbrev pub ranked_cmp : RankedJoin → RankedJoin → Ordering
ranked_cmp = then_cmp (on (λ j. j.at) nat_cmp) (on (λ j. j.rank) nat_cmp)

-- for joins with their ranks, the ranges that are listed, each with its cell's number
abbrev pub Listed : Type 0
Listed = List (RankedJoin × Ranges ℕ)

-- those of one join
abbrev pub listed_at : Listed → RankedJoin → Ranges ℕ
listed_at listed join = unwrap_or (lookup (is_at (ranked_cmp join)) listed) []

-- whether joins that are followed have one with its rank, or it was declared after these stood
abbrev pub has_join : Followed → RankedJoin → Bool
has_join followed join = nat_lt followed.changed join.at || contains ranked_cmp followed.joins join

-- a gap is a range, which is not empty and meets none that is listed
pub record IsLoneGap (ranges : Ranges ℕ) (range gap : Range) : Type 0 where
  pub is : gap ≡ range
  pub not_empty : is_open gap ≡ true
  pub free : is_free ranges gap ≡ true

-- ---- changes

-- a range is listed with a cell's number beside others: it is not empty, and meets none of them
pub record IsAdded (range : Range) (id : ℕ) (old new : Ranges ℕ) : Type 0 where
  pub not_empty : is_open range ≡ true
  pub free : is_free old range ≡ true
  pub more : new ≡ with_range range id old

-- so is a range of a join; those of no other join change
pub record IsListed (join : RankedJoin) (range : Range) (id : ℕ) (old new : Listed) : Type 0 where
  pub added : IsAdded range id (listed_at old join) (listed_at new join)
  pub others : (other : RankedJoin) → other ≢ join → listed_at new other ≡ listed_at old other

-- the range of a join that has these bounds is listed no more, if it was; those of no other join change
abbrev pub IsUnlisted : RankedJoin → Range → Listed → Listed → Type 0
IsUnlisted join range old new = ListsInstead join (without_range range (listed_at old join)) (listed_at old) (listed_at new)

-- of each join the same ranges are listed
abbrev pub StayListed : Listed → Listed → Type 0
StayListed old new = ListsTheSame (listed_at old) (listed_at new)

-- of the joins those that are followed keep their ranges, and the others have none
abbrev pub ListsFollowed : Followed → Listed → Listed → Type 0
ListsFollowed followed old new = (join : RankedJoin) → listed_at new join ≡ (if has_join followed join then listed_at old join else [])
