-- Laws on where joins stand in a history.
use Rattle.std.specs.Prelude.{◌≡◌, List, length, ◌+◌, ◌≤◌, ℕ, take, slice_get, Some}
use Rattle.semantics.specs.Joins.{Join}
use Rattle.semantics.specs.Histories.{History, DeclaredJoin, joins_of, changed_at}
use Rattle.semantics.specs.Stays.{stays_of, joins_at}
use Rattle.growing_history.specs.Entered.{HasRank}
use Rattle.layering.specs.Standing.{declared_at, JoinsStay}

-- the joins that stand after the first p entries are those whose stays have begun up to there and not ended
abbrev pub JoinsAreStays : Type 0
JoinsAreStays = (h : History) (p : ℕ) → joins_of (take p h) ≡ joins_at p (stays_of h)

-- a position names a join: at it stands the join that was declared there
abbrev pub PositionNamesJoin : Type 0
PositionNamesJoin = (h : History) (place : ℕ) (s : DeclaredJoin) → slice_get (joins_of h) place ≡ Some s → declared_at s.position (joins_of h) ≡ Some s

-- where no join is declared or dropped after the first q entries and up to p, the same joins stand at all positions between
abbrev pub JoinsStaySince : Type 0
JoinsStaySince = (h : History) (q p : ℕ) → changed_at (take p h) ≤ q → JoinsStay h q p

-- where none is declared or dropped after the first p entries, the joins after them are those that stand
abbrev pub SameJoinsSince : Type 0
SameJoinsSince = (h : History) (p : ℕ) → changed_at h ≤ p → joins_of (take p h) ≡ joins_of h

-- and each keeps its rank
abbrev pub RankStays : Type 0
RankStays = (h : History) (q p : ℕ) (j : Join) (r : ℕ) → JoinsStay h q p → q ≤ p → HasRank (joins_of (take q h)) j r → HasRank (joins_of (take p h)) j r
