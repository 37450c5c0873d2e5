-- Laws on what is the same at all positions between two.
use Rattle.std.specs.Prelude.{◌≡◌, ◌+◌, ◌≤◌, ℕ, take, true}
use Rattle.std.specs.List.{AllByRecursion}
use Rattle.semantics.specs.Texts.{Text, is_range, Range, within}
use Rattle.semantics.specs.Histories.{History, joins_of}
use Rattle.semantics.specs.States.{of_rank}
use Rattle.growing_history.specs.Entered.{HasEntered}
use Rattle.growing_history.specs.Changes.{Same, IsBareThroughout}
use Rattle.layering.specs.Reached.{reached}
use Rattle.layering.specs.Standing.{JoinsStay, SameOutput}

-- where the same joins stand, the same stands at a key below the next rank where it does below the rank and the joins of the rank make the same there
abbrev pub SameBelowNext : Type 0
SameBelowNext = (h : History) (q p r : ℕ) (key : Text) → JoinsStay h q p → Same h q p r key →
    AllByRecursion (λ s. SameOutput h q p r key s.join) (of_rank r (joins_of (take q h))) → Same h q p (r + 1) key

-- at a key of a range it is enough that those joins of the rank make the same that the range reaches
abbrev pub SameBelowNextWithin : Type 0
SameBelowNextWithin = (h : History) (q p r : ℕ) (range : Range) (key : Text) → HasEntered h → is_range range.low range.high ≡ true → within range key ≡ true →
    JoinsStay h q p → Same h q p r key →
    AllByRecursion (λ s. SameOutput h q p r key s.join) (reached range r (joins_of (take q h))) → Same h q p (r + 1) key

-- what is the same from one position to a second and from there to a third is the same all the way
abbrev pub SameThrough : Type 0
SameThrough = (h : History) (q m p r : ℕ) (key : Text) → q ≤ m → m ≤ p → Same h q m r key → Same h m p r key → Same h q p r key

-- at a key of a range that is bare at all positions from q to p, what stands below any rank is the same where the base pair is
abbrev pub SameWhereBare : Type 0
SameWhereBare = (h : History) (q p r rank : ℕ) (range : Range) (key : Text) → HasEntered h → is_range range.low range.high ≡ true → within range key ≡ true →
    IsBareThroughout h q p range → Same h q p r key → Same h q p rank key
