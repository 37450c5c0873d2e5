-- Parts of a range that join to it.
use Rattle.std.specs.Prelude.{◌≡◌, List, [], ◌∷◌, true}
use Rattle.std.specs.Ordering.{is_le}
use Rattle.semantics.specs.Texts.{Text, text_cmp, Range}
use Rattle.key_ranges.specs.Ranges.{is_open}

-- ranges that join from one text up to another: none is empty, the first begins at the one text, each other where the one before ends, and the last ends at the other text
abbrev pub JoinUpTo : Text → Text → List Range → Type 0
JoinUpTo low high [] = low ≡ high
JoinUpTo low high (part ∷ parts) = (part.low ≡ low) × (is_open part ≡ true) × JoinUpTo part.high high parts

-- parts that join to a range; there are none exactly where its bounds are one text
abbrev pub JoinTo : Range → List Range → Type 0
JoinTo range parts = JoinUpTo range.low range.high parts

-- the second range begins at or before the first, and ends at or after it
pub record IsWithin (part range : Range) : Type 0 where
  pub begins : is_le (text_cmp range.low part.low) ≡ true
  pub ends : is_le (text_cmp part.high range.high) ≡ true
