-- A key's text that is cut at its bytes `|` from the front on, or joined.
use Rattle.std.specs.Prelude.{◌≡◌, List, [], ◌∷◌, ◌++◌, Option, Some, None, option_map, false}
use Rattle.std.specs.List.{join_with_byte}
use Rattle.std.specs.Borrow.{Bor}
use Rattle.semantics.specs.Texts.{Text, bar, has_bar}
use Rattle.semantics.specs.Patterns.{Segment, Pattern, Slots, segments, segment_text, segment_texts}

-- the segments of what is left, if anything is
abbrev pub segments_left : Option (Bor Text) → List Text
segments_left None = []
segments_left (Some rest) = segments rest.now

-- the first segment of a text, and what is left after it
pub record CutsFirst (text first : Text) (rest : Option (Bor Text)) : Type 0 where
  pub parts : segments text ≡ first ∷ segments_left rest
  pub lacks : has_bar first ≡ false

-- the text after is the one before with what the segment has under the slots
abbrev pub AddsSegment : Segment → Slots → Text → Text → Type 0
AddsSegment segment given before after = option_map (λ t. before ++ t) (segment_text segment given) ≡ Some after

-- the text is what the segments have under the slots, with `|` between each two
abbrev pub Joins : Pattern → Slots → Text → Type 0
Joins pattern given text = option_map (join_with_byte bar) (segment_texts pattern given) ≡ Some text
