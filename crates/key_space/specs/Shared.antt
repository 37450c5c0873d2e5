-- What a text is, wherever it lies.
use Rattle.std.specs.Prelude.{List, ℕ, ◌≡◌, ◌≤◌, take, true}
use Rattle.std.specs.Str.{is_utf8}
use Rattle.std.specs.String.{string_bytes}
use Rattle.key_space.specs.declared.shared_text.ShortText.{ShortText}
use Rattle.key_space.specs.declared.shared_text.Kept.{Kept}
use Rattle.key_space.specs.declared.shared_text.Kept.TheVariants.{Here, Apart}

-- the bytes of a short text
abbrev pub short_bytes : ShortText → List ℕ
short_bytes text = take text.len text.bytes

-- a short text's bytes are text, and lie within its room
abbrev pub IsShort : ShortText → Type 0
IsShort text = (text.len ≤ 22) × (is_utf8 (short_bytes text) ≡ true)

-- the bytes of the text
abbrev pub kept_bytes : Kept → List ℕ
kept_bytes (Here text) = short_bytes text
kept_bytes (Apart text) = string_bytes text.value

-- what is kept is text
abbrev pub IsKept : Kept → Type 0
IsKept (Here text) = IsShort text
IsKept (Apart _) = Unit
