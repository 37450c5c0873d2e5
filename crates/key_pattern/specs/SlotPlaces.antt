-- At which places slots have texts.
use Rattle.std.specs.Prelude.{◌≡◌, ℕ, ◌<◌, if◌then◌else◌, slice_set, is_some, Option, Some, None}
use Rattle.semantics.specs.Texts.{Text}
use Rattle.semantics.specs.Patterns.{Slots, text_at}

-- the slots found have the text of the given ones at each place at which the others have one, and no other text
abbrev pub AreAtPlaces : Slots → Slots → Slots → Type 0
AreAtPlaces given others found = (place : ℕ) → place < 16 → text_at place found ≡ (if is_some (text_at place others) then text_at place given else None)

-- both have texts at the same places
abbrev pub HaveSamePlaces : Slots → Slots → Type 0
HaveSamePlaces given others = (place : ℕ) → place < 16 → is_some (text_at place given) ≡ is_some (text_at place others)

-- the slots, with no text at a place where others have none there
abbrev pub kept_where : Option Text → ℕ → Slots → Slots
kept_where None place given = slice_set given place None
kept_where (Some t) place given = given
