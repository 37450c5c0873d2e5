-- The words of the passes: pins, and noted positions.
use Rattle.std.specs.Prelude.{◌≡◌, ℕ, ◌+◌, ◌-◌, ◌*◌, ◌^◌, ◌<◌, ◌≤◌, List, get_or, nat_lt, if◌then◌else◌}
use Rattle.write_history.specs.declared.known.Kinds.{Kinds}
use Rattle.write_history.specs.declared.known.Mark.{Mark}
use Rattle.write_history.specs.declared.known.Mark.TheVariants.{Plain, Free, Pinned, Noted}

-- a position less the number of entries that are kept behind it
unfoldable pub before : ℕ → ℕ
before n = n - 65536

-- what a pin word says where nothing is pinned
unfoldable pub no_pin : ℕ
no_pin = 2 ^ 48

-- how many passes have a pin, and how many have a word
abbrev pub pins : Kinds → ℕ
pins kinds = kinds.writers + kinds.pinned

abbrev pub words_of : Kinds → ℕ
words_of kinds = pins kinds + kinds.shards

-- the greatest floor that the word of a pass allows
unfoldable pub allowed : Kinds → ℕ → ℕ → ℕ
allowed kinds number word = if nat_lt number (pins kinds) then before word else word

-- what the word of a pass says at the start, and what the pass knows of it
unfoldable pub first_word : Kinds → ℕ → ℕ
first_word kinds number = if nat_lt number (pins kinds) then no_pin else 0

unfoldable pub first_mark : Kinds → ℕ → Mark
first_mark kinds number = if nat_lt number (pins kinds) then Free else (if nat_lt number (words_of kinds) then Noted 0 else Plain)

-- the first words, so many of them, allow the floor
abbrev pub AllAllow : Kinds → ℕ → ℕ → List ℕ → Type 0
AllAllow kinds count low words = (number : ℕ) → number < count → low ≤ allowed kinds number (get_or words number 0)

-- the word of a pass is what the pass knows of it
abbrev pub IsMarked : Kinds → List ℕ → ℕ → Mark → Type 0
IsMarked kinds words number Plain = Unit {0}
IsMarked kinds words number Free = (number < pins kinds) × (get_or words number 0 ≡ no_pin)
IsMarked kinds words number (Pinned position) = (number < pins kinds) × (get_or words number 0 ≡ position)
IsMarked kinds words number (Noted position) = (pins kinds ≤ number) × (number < words_of kinds) × (get_or words number 0 ≡ position)

-- the floor is one that what a pass knows of its word allows
abbrev pub IsLow : Mark → ℕ → Type 0
IsLow Plain floor = Unit {0}
IsLow Free floor = Unit {0}
IsLow (Pinned position) floor = floor ≤ before position
IsLow (Noted position) floor = floor ≤ position

-- the number of a pass is one of those that have such a word, and a pin is not above what the word says where nothing is pinned
abbrev pub IsPlaced : Kinds → ℕ → Mark → Type 0
IsPlaced kinds number Plain = Unit {0}
IsPlaced kinds number Free = number < pins kinds
IsPlaced kinds number (Pinned position) = (number < pins kinds) × (position ≤ no_pin)
IsPlaced kinds number (Noted position) = (pins kinds ≤ number) × (number < words_of kinds)

-- one who asks from a position on asks for no entry that may be dropped while the pass has this mark
abbrev pub MayAsk : Mark → ℕ → Type 0
MayAsk Plain from = ⊥
MayAsk Free from = ⊥
MayAsk (Pinned position) from = before position ≤ from
MayAsk (Noted position) from = position ≤ from

-- the first position that a pass may ask for, by its word
abbrev pub reach : Mark → ℕ
reach Plain = 0
reach Free = 0
reach (Pinned position) = before position
reach (Noted position) = position
