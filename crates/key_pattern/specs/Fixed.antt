-- The texts of the longest beginning of a pattern that slots fix.
use Rattle.std.specs.Prelude.{◌≡◌, ◌==◌, ◌++◌, length, Bool, true, false, Option, Some, None}
use Rattle.std.specs.List.{join_with_byte}
use Rattle.std.specs.String.{string_bytes}
use Rattle.semantics.specs.Texts.{Text, bar}
use Rattle.semantics.specs.Patterns.{Segment, literal, slot, Pattern, Slots, text_at}
use Rattle.key_ranges.specs.Containing.{fixed_texts}
use Rattle.key_pattern.specs.declared.ranging.FixedText.{FixedText}

-- the text of a literal, or that which the slots give
abbrev pub fixed_text : Segment → Slots → Option Text
fixed_text (literal l) given = Some l
fixed_text (slot place width) given = text_at place given

-- the text after is the one before with the separator and the segment's text, where it has one
abbrev pub AddsFixed : Option Text → Text → Text → Text → Bool → Type 0
AddsFixed None separator before after had = (had ≡ false) × (after ≡ before)
AddsFixed (Some t) separator before after had = (had ≡ true) × (after ≡ before ++ separator ++ t)

-- the joined texts of the longest beginning in which each segment has one, and whether they are all of the pattern's
pub record JoinsFixed (pattern : Pattern) (given : Slots) (fixed : FixedText) : Type 0 where
  pub text : string_bytes fixed.text ≡ join_with_byte bar (fixed_texts pattern given)
  pub is_whole : fixed.is_whole ≡ (length (fixed_texts pattern given) == length pattern)
