-- The segments with which two bounds begin, and what follows them.
use Rattle.std.specs.Prelude.{◌≡◌, List, [], ◌∷◌, Option, Some, None, MatchOption, true, false}
use Rattle.std.specs.Borrow.{Bor}
use Rattle.std.specs.Option.{IfSome, option_copied}
use Rattle.std.specs.Ordering.{is_le}
use Rattle.semantics.specs.Texts.{Text, text_cmp, has_bar, Range}
use Rattle.semantics.specs.Patterns.{segments}
use Rattle.key_ranges.specs.Ranges.{without_last}
use Rattle.key_ranges.specs.Containing.{shared_beginning, low_rest, high_rest}
use Rattle.key_pattern.specs.declared.ranging.SharedSegment.{SharedSegment}

-- the segments of a text that ends with `|`; the empty text has none
abbrev pub closed_segments : Text → List Text
closed_segments [] = []
closed_segments (b ∷ bs) = segments (without_last (b ∷ bs))

-- the segments of the longest beginning that ends with `|` and whose range holds both bounds
unfoldable pub shared_segments : Text → Text → List Text
shared_segments low high = closed_segments (shared_beginning (record { low = low; high = high }))

-- two texts as bounds
abbrev pub bounds : Text → Text → Range
bounds low high = record { low = low; high = high }

-- ---- what is left of two bounds behind some segments that they share; of the last bound nothing, where it ends with `}` in the place of the last `|`

-- the segments that they share still
abbrev pub shared_behind : Text → Option (Bor Text) → List Text
shared_behind low None = []
shared_behind low (Some high) = shared_segments low high.now

-- what follows these in the first bound
unfoldable pub low_behind : Text → Option (Bor Text) → Text
low_behind low None = low
low_behind low (Some high) = low_rest (bounds low high.now)

-- and in the last, where that begins with them too
unfoldable pub high_behind : Text → Option (Bor Text) → Option Text
high_behind low None = None
high_behind low (Some high) = high_rest (bounds low high.now)

-- they are in order
abbrev pub AscendBehind : Text → Option (Bor Text) → Type 0
AscendBehind low high = IfSome high (λ last. is_le (text_cmp low last.now) ≡ true)

-- they share no segment
pub record SharesNothing (low : Text) (high : Option (Bor Text)) : Type 0 where
  pub segments : shared_behind low high ≡ []
  pub low_rest : low_behind low high ≡ low
  pub high_rest : high_behind low high ≡ option_copied high

-- the first of the segments that they share, and what is left behind it, which shares the others
pub record SharesFirst (low : Text) (high : Option (Bor Text)) (found : SharedSegment) : Type 0 where
  pub segments : shared_behind low high ≡ found.text.now ∷ shared_behind found.low.now found.high
  pub lacks : has_bar found.text.now ≡ false
  pub ascend : AscendBehind found.low.now found.high
  pub low_rest : low_behind low high ≡ low_behind found.low.now found.high
  pub high_rest : high_behind low high ≡ high_behind found.low.now found.high

-- they share no segment, or this one at first
abbrev pub Shares : Text → Option (Bor Text) → Option SharedSegment → Type 0
Shares low high found = MatchOption found (SharesNothing low high) (SharesFirst low high)
