-- Segments as plain data.
use Rattle.std.specs.Prelude.{List, map}
use Rattle.std.specs.String.{string_bytes}
use Rattle.semantics.specs.Patterns as plain
use Rattle.key_pattern.specs.declared.segment.Segment.{Segment}
use Rattle.key_pattern.specs.declared.segment.Segment.TheVariants.{Literal, Slot}

-- a segment with its text as a list of bytes
abbrev pub plain_segment : Segment → plain.Segment
plain_segment (Literal text) = plain.literal (string_bytes text)
plain_segment (Slot place width) = plain.slot place width

-- the same of each segment of a list
abbrev pub plain_segments : List Segment → plain.Pattern
plain_segments = map plain_segment
