-- What a kept range says of what changed in its output since a position.
use Rattle.std.specs.Prelude.{◌≡◌, ℕ, ◌≤◌, ◌||◌, List, length, take, Contains, Bool, true, false, nat_lt, Option, Some, None, Vec}
use Rattle.std.specs.declared.alloc.Global.{Global}
use Rattle.semantics.specs.Texts.{Text, Range, value_at, within}
use Rattle.semantics.specs.Histories.{History}
use Rattle.semantics.specs.Outputs.{out}
use Rattle.semantics.specs.States.{below}
use Rattle.join_eval.specs.declared.reading.Changed.{Changed}
use Rattle.join_eval.specs.declared.reading.Changed.TheVariants.{Keys, All}
use Rattle.kept_ranges.specs.Sound.{KeptRange}
use Rattle.range_state.specs.NotesSince.{keys_since, slots_since}
use Rattle.range_state.specs.Ready.{pending_meets}

-- whether it is not known what changed in a range since a position: nothing is kept, the notes start after it, something pending meets the range, or so do slots that were noted since
abbrev pub is_unknown_since : ℕ → Range → KeptRange → Option ℕ → Bool
is_unknown_since u range s None = true
is_unknown_since u range s (Some q) = nat_lt u s.notes.start || pending_meets s range || slots_since s.join.output u range s.notes.list

-- what a kept range answers to what changed in a range since a position
abbrev pub AnswersSince : ℕ → Range → KeptRange → Changed → Type 0
AnswersSince u range s (Keys keys) = (is_unknown_since u range s s.position ≡ false) × (keys.items ≡ keys_since u range s.notes.list)
AnswersSince u range s All = is_unknown_since u range s s.position ≡ true

-- at each key of both ranges that is not listed the output is the same over the history at all positions from one to another
abbrev pub IsSameBut : KeptRange → History → ℕ → ℕ → Range → List Text → Type 0
IsSameBut s h u q range keys = (x : ℕ) (k : Text) → u ≤ x → x ≤ q → within s.range k ≡ true → within range k ≡ true → (Contains keys k → ⊥) →
    value_at k (out s.join (below (take x h) s.rank)) ≡ value_at k (out s.join (below (take u h) s.rank))

-- where keys are listed, the output is the same at all others
abbrev pub ListsAllSince : KeptRange → History → ℕ → ℕ → Range → Changed → Type 0
ListsAllSince s h u q range (Keys keys) = IsSameBut s h u q range keys.items
ListsAllSince s h u q range All = Unit {0}

-- keys that are handed out, or none, as an answer
abbrev pub as_changed : Option (Vec Text Global) → Changed
as_changed (Some keys) = Keys keys
as_changed None = All

-- how many keys an answer lists
abbrev pub told_count : Changed → ℕ
told_count (Keys keys) = length keys.items
told_count All = 0
