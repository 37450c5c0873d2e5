-- What the bounds of a narrowed range go on with.
use Rattle.std.specs.Prelude.{◌≡◌, ℕ, ◌<◌, [], ◌∷◌, ◌++◌, length, nat_le, if◌then◌else◌, true, Option, Some, None, option_map, option_and_then, MatchOption}
use Rattle.std.specs.Option.{option_copied}
use Rattle.semantics.specs.Texts.{Text, bar, brace, is_range, Range}
use Rattle.semantics.specs.Patterns.{Segment, literal, slot, Pattern, Slots, text_at}
use Rattle.key_ranges.specs.Containing.{open_or, open_after, shared_texts, same_width, narrowing_width, whole_beginning, low_rest, high_rest, narrowed_end, low_or}
use Rattle.key_pattern.specs.declared.narrowing.OpenSlot.{OpenSlot}
use Rattle.key_pattern.specs.declared.narrowing.Rests.{Rests}
use Rattle.key_pattern.specs.declared.narrowing.HighEnd.{HighEnd}
use Rattle.key_pattern.specs.declared.narrowing.Narrowing.{Narrowing}

-- an open slot as a segment
abbrev pub plain_slot : OpenSlot → Segment
plain_slot s = slot s.place s.width

-- the segment, where it is neither a literal nor a slot with a text
abbrev pub open_segment : Segment → Slots → Option Segment
open_segment (literal l) given = None
open_segment (slot place width) given = open_or (text_at place given) (slot place width) None

-- the text of a last bound's end: with `}` behind it where it is closed
abbrev pub end_text : HighEnd → Text
end_text end = if end.is_closed then end.text.now ++ brace ∷ [] else end.text.now

-- where a slot is what follows the texts that a range shares in an output, the rests of the range's bounds; none where it is not, or has no width
pub record HasRests (output : Pattern) (s : OpenSlot) (given : Slots) (range : Range) (rests : Rests) : Type 0 where
  pub ordered : is_range range.low range.high ≡ true
  pub same : option_and_then (same_width (plain_slot s)) (open_after output (shared_texts range) given) ≡ Some s.width
  pub low : rests.low.now ≡ low_rest range
  pub high : option_copied rests.high ≡ high_rest range

abbrev pub GivesRests : Pattern → OpenSlot → Slots → Range → Option Rests → Type 0
GivesRests output s given range found = MatchOption found
    (option_and_then (same_width (plain_slot s)) (open_after output (shared_texts range) given) ≡ None)
    (HasRests output s given range)

-- what the bounds go on with that are narrowed by a width
pub record HasEnds (source : Pattern) (given : Slots) (output : Pattern) (range : Range) (ends : Narrowing) : Type 0 where
  pub ordered : is_range range.low range.high ≡ true
  pub width : ℕ
  pub narrows : narrowing_width source given output range ≡ Some width
  pub low : ends.low.now ≡ whole_beginning width (low_rest range)
  pub high : option_map end_text ends.high ≡ option_and_then (narrowed_end width) (high_rest range)

-- what the narrowed bounds go on with; none where nothing narrows
abbrev pub Narrows : Pattern → Slots → Pattern → Range → Option Narrowing → Type 0
Narrows source given output range found = MatchOption found (narrowing_width source given output range ≡ None) (HasEnds source given output range)

-- a bound of at most 513 bytes, where there is one, and otherwise the one before
abbrev pub bound_or : Text → Option Text → Text
bound_or before None = before
bound_or before (Some t) = if nat_le (length t) 513 then t else before

-- the bounds that go on from a text and `|`; a last bound that does not is the text and `}`
abbrev pub narrowed_bounds : Text → Text → Option Text → Range
narrowed_bounds front low high = record {
  low = low_or ((front ++ bar ∷ []) ++ low) (front ++ bar ∷ []);
  high = bound_or (front ++ brace ∷ []) (option_map (λ end. (front ++ bar ∷ []) ++ end) high);
}

-- the bounds of a text and `|` that go on with these ends
abbrev pub bounds_with : Text → Narrowing → Range
bounds_with front ends = narrowed_bounds front ends.low.now (option_map end_text ends.high)

-- they are a range, where the text and `|` have at most 512 bytes
abbrev pub EndsFit : Text → Narrowing → Type 0
EndsFit front ends = length front < 512 → is_range (bounds_with front ends).low (bounds_with front ends).high ≡ true
