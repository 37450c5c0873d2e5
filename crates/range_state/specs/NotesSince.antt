-- What was noted after a position.
use Rattle.std.specs.Prelude.{◌≡◌, ℕ, List, [], ◌∷◌, ◌++◌, filter, flat_map, Bool, false, nat_lt, if◌then◌else◌}
use Rattle.std.specs.List.{list_any}
use Rattle.semantics.specs.Texts.{Text, Range, within}
use Rattle.semantics.specs.Patterns.{Pattern}
use Rattle.growing_history.specs.Changes.{in_order}
use Rattle.lazy_log.specs.Pending.{meets_output}
use Rattle.kept_ranges.specs.Notes.{Mark, key, slots, Note}

-- the key of a mark, where it is one output key
abbrev pub key_of : Mark → List Text
key_of (key k) = k ∷ []
key_of (slots s) = []

-- the key of a note that was made after a position, where it is one output key
abbrev pub key_after : ℕ → Note → List Text
key_after u note = if nat_lt u note.position then key_of note.mark else []

-- the output keys of a range that were noted after a position, ascending, each once
abbrev pub keys_since : ℕ → Range → List Note → List Text
keys_since u range notes = in_order (filter (within range) (flat_map (key_after u) notes))

-- whether a mark is of slots that meet a range
abbrev pub slots_meet : Pattern → Range → Mark → Bool
slots_meet output range (key k) = false
slots_meet output range (slots s) = meets_output output range s

-- whether a note that was made after a position is of slots that meet a range
abbrev pub meets_after : Pattern → ℕ → Range → Note → Bool
meets_after output u range note = if nat_lt u note.position then slots_meet output range note.mark else false

-- whether slots that meet a range were noted after a position
abbrev pub slots_since : Pattern → ℕ → Range → List Note → Bool
slots_since output u range notes = list_any (meets_after output u range) notes

-- keys are gathered to those that were: where the old ones are those of some texts that lie in a range, the new ones are those of the texts and these besides
abbrev pub GathersMore : Range → List Text → List Text → List Text → Type 0
GathersMore range more old new = (before : List Text) → old ≡ in_order (filter (within range) before) → new ≡ in_order (filter (within range) (before ++ more))
