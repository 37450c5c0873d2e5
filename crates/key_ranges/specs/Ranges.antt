-- Two ranges, and ranges made from one text.
use Rattle.std.specs.Prelude.{◌&&◌, ◌-◌, [], ◌∷◌, ◌++◌, length, take, Bool, if◌then◌else◌, Option, Some, None}
use Rattle.std.specs.Ordering.{is_lt}
use Rattle.semantics.specs.Texts.{Text, brace, same, text_cmp, Range}

-- whether the first text is below the second
abbrev pub is_below : Text → Text → Bool
is_below a b = is_lt (text_cmp a b)

-- a range is not empty where its first bound is below its last
abbrev pub is_open : Range → Bool
is_open r = is_below r.low r.high

-- two ranges meet where neither is empty and each first bound is below the other's last
abbrev pub meets : Range → Range → Bool
meets r s = is_open r && is_open s && is_below r.low s.high && is_below s.low r.high

-- the greater of two texts
abbrev pub later : Text → Text → Text
later a b = if is_below a b then b else a

-- the lesser of two texts
abbrev pub earlier : Text → Text → Text
earlier a b = if is_below b a then b else a

-- from the greater first bound to the lesser last bound
abbrev pub common : Range → Range → Range
common r s = record { low = later r.low s.low; high = earlier r.high s.high }

-- the common part of two ranges, none where they do not meet
abbrev pub cut : Range → Range → Option Range
cut r s = if meets r s then Some (common r s) else None

-- a text without its last byte
abbrev pub without_last : Text → Text
without_last t = take (length t - 1) t

-- a text with `}` in the place of its last byte
abbrev pub closed : Text → Text
closed t = without_last t ++ brace ∷ []

-- the range of all texts that begin with a text that ends with `|`
abbrev pub prefix_range : Text → Range
prefix_range t = record { low = t; high = closed t }

-- the range of one key alone: from it to the key followed by byte 0
abbrev pub just : Text → Range
just key = record { low = key; high = key ++ 0 ∷ [] }

-- whether a range holds one key alone: its last bound is its first bound and byte 0
abbrev pub is_single : Range → Bool
is_single r = same r.high (r.low ++ 0 ∷ [])
