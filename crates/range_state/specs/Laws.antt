-- Laws on needs through which changed keys are applied, and on how many touches and applications there are.
use Rattle.std.specs.Prelude.{◌≡◌, ℕ, ◌≤◌, List, length, filter, Bool, true, false, not, Option, Some, None}
use Rattle.std.specs.List.{sum_by, AllByRecursion}
use Rattle.semantics.specs.Texts.{Text, Range, Table}
use Rattle.semantics.specs.Patterns.{Slots}
use Rattle.semantics.specs.Joins.{is_check, Source, Join, is_join}
use Rattle.semantics.specs.Histories.{History}
use Rattle.semantics.specs.States.{KeepsRules}
use Rattle.range_evaluation.specs.Trees.{Need}
use Rattle.kept_ranges.specs.Kept.{CameBy}
use Rattle.kept_ranges.specs.Rules.{source_of, touches, applications}
use Rattle.range_state.specs.Filling.{CanFill}
use Rattle.range_state.specs.Asking.{AreListed, changed_count}

-- ---- filling

-- through a need that came by a path of a join that keeps the rules, a changed key of the value source can fill its output key
abbrev pub NeedCanFill : Type 0
NeedCanFill = (j : Join) (table : Table) (needs : List Need) (need : Need) → is_join j ≡ true → KeepsRules j → CameBy j table needs need → CanFill j need

-- so it is of each need, and of those that are left of them by any test
abbrev pub NeedsCanFill : Type 0
NeedsCanFill = (j : Join) (table : Table) (needs : List Need) (test : Need → Bool) → is_join j ≡ true → KeepsRules j → AllByRecursion (CameBy j table needs) needs → AllByRecursion (CanFill j) (filter test needs)

-- ---- how many

-- whether there is a source, and it is a check
abbrev pub is_check_source : Option Source → Bool
is_check_source None = false
is_check_source (Some source) = is_check source.operator

-- whether there is a source, and it is no check
abbrev pub is_value_source : Option Source → Bool
is_value_source None = false
is_value_source (Some source) = not (is_check source.operator)

-- the needs of check sources
abbrev pub check_needs : Join → List Need → List Need
check_needs j needs = filter (λ need. is_check_source (source_of j need)) needs

-- the needs of the value source
abbrev pub value_needs : Join → List Need → List Need
value_needs j needs = filter (λ need. is_value_source (source_of j need)) needs

-- how many keys in the ranges of needs entries q + 1 to p put or remove, counted for each need
abbrev pub changed_in : ℕ → ℕ → History → List Need → ℕ
changed_in q p h needs = sum_by (changed_count q p h) needs

-- there are at most as many touches as changed keys in the ranges of check needs
abbrev pub FewTouches : Type 0
FewTouches = (j : Join) (h : History) (q p : ℕ) (reported : List Text) (needs : List Need) → AreListed q p h needs reported →
    length (touches j reported needs) ≤ changed_in q p h (check_needs j needs)

-- and at most as many applications as changed keys in the ranges of value needs
abbrev pub FewApplications : Type 0
FewApplications = (j : Join) (range : Range) (pending : List Slots) (h : History) (q p : ℕ) (reported : List Text) (needs : List Need) → AreListed q p h needs reported →
    length (applications j range pending reported needs) ≤ changed_in q p h (value_needs j needs)
