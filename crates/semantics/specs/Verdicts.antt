-- The verdict of a write after a history: the first cause that refuses it.
use Rattle.std.specs.Prelude.{◌≡◌, ℕ, ◌+◌, ◌-◌, ◌^◌, ◌==◌, List, [], ◌∷◌, ◌++◌, length, map, find, slice_get, Bool, true, false, not, nat_lt, nat_le, if◌then◌else◌, Option, Some, None, option_map, unwrap_or}
use Rattle.std.specs.List.{list_any}
use Rattle.semantics.specs.Texts.{Text}
use Rattle.semantics.specs.Patterns.{fits, overlaps}
use Rattle.semantics.specs.Joins.{Join, keeps_slot_rule, keeps_source_rule}
use Rattle.semantics.specs.Histories.{Write, put, remove, declare, drop_join, Entry, History, DeclaredJoin, joins_of}
use Rattle.semantics.specs.Graphs.{least_cycle}
use Rattle.semantics.specs.States.{reading, ranks_of}

-- why a write is refused, with what the refusal carries
pub data Cause : Type 0 where
  computed : ℕ → Cause
  full : Cause
  nojoin : Cause
  slots : Cause
  sources : Cause
  clash : ℕ → Cause
  cycle : List ℕ → Cause
  deep : Cause
  many : Cause

-- the cause, where the test holds
abbrev cause_if : Bool → Cause → Option Cause
cause_if test cause = if test then Some cause else None

-- the first cause that there is
abbrev pub first_cause : List (Option Cause) → Option Cause
first_cause [] = None
first_cause (None ∷ others) = first_cause others
first_cause (Some cause ∷ others) = Some cause

-- the position of the first join of a set that passes a test
abbrev first_position : (Join → Bool) → List DeclaredJoin → Option ℕ
first_position test joins = option_map (λ s. s.position) (find (λ s. test s.join) joins)

-- `computed`: the key fits the output of a join that stands
abbrev pub computed_cause : Text → List DeclaredJoin → Option Cause
computed_cause key joins = option_map computed (first_position (λ j. fits j.output key) joins)

-- `clash`: the output overlaps that of a join that stands
abbrev pub clash_cause : Join → List DeclaredJoin → Option Cause
clash_cause j joins = option_map clash (first_position (λ other. overlaps j.output other.output) joins)

-- the position of the join with a number
abbrev pub position_at : List DeclaredJoin → ℕ → ℕ
position_at joins i = unwrap_or (option_map (λ s. s.position) (slice_get joins i)) 0

-- `cycle`: the reading with the new join, which stands last, has a cycle; the shortest and least one is carried as positions
abbrev pub cycle_cause : ℕ → List DeclaredJoin → Option Cause
cycle_cause last joins = option_map (λ c. cycle (map (position_at joins) c)) (least_cycle (length joins) (reading joins) last)

-- the set with a new join at a position
abbrev pub joined : List DeclaredJoin → ℕ → Join → List DeclaredJoin
joined joins position j = joins ++ record { position = position; join = j } ∷ []

-- why a join may not be added to a set at a position
unfoldable pub join_cause : List DeclaredJoin → ℕ → Join → Option Cause
join_cause joins position j =
    first_cause (cause_if (not (keeps_slot_rule j)) slots
    ∷ cause_if (not (keeps_source_rule j)) sources
    ∷ clash_cause j joins
    ∷ cycle_cause (length joins) (joined joins position j)
    ∷ cause_if (list_any (nat_lt 7) (ranks_of (joined joins position j))) deep
    ∷ cause_if (nat_le 64 (length joins)) many
    ∷ [])

-- `nojoin`: no join with the position stands
abbrev pub drop_cause : ℕ → List DeclaredJoin → Option Cause
drop_cause at joins = cause_if (not (list_any (λ s. s.position == at) joins)) nojoin

-- why a write may not enter, once the history has room
abbrev pub write_cause : Write → History → Option Cause
write_cause (put k v) h = computed_cause k (joins_of h)
write_cause (remove k) h = computed_cause k (joins_of h)
write_cause (declare j) h = join_cause (joins_of h) (length h + 1) j
write_cause (drop_join at) h = drop_cause at (joins_of h)

-- `Verdict`: the first of `full`, `computed`, `nojoin`, `slots`, `sources`, `clash`, `cycle`, `deep` and `many` that holds for the write after the history
unfoldable pub verdict : Write → History → Option Cause
verdict write h = first_cause (cause_if (nat_le (2 ^ 48 - 1) (length h)) full ∷ write_cause write h ∷ [])

-- each entry had no cause against it at its place
abbrev pub AllEntered : History → Type 0
AllEntered h = (before : History) (e : Entry) (after : History) → h ≡ before ++ e ∷ after → verdict e.write before ≡ None
