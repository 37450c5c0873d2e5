-- Laws on the numbers that values write.
use Rattle.std.specs.Prelude.{◌≡◌, ◌↔◌, ◌^◌, ℤ, pos, neg_ℤ, ◌≤ℤ◌, ◌<ℤ◌, Some, None}
use Rattle.std.specs.Fmt.{signed_decimal}
use Rattle.semantics.specs.Texts.{Text}
use Rattle.semantics.specs.Outputs.{canonical_integer}

-- the numbers of 64 bits with a sign: from -2^63 to 2^63 - 1
pub record IsWithin64 (n : ℤ) : Type 0 where
  pub low : neg_ℤ (pos (2 ^ 63)) ≤ℤ n
  pub high : n <ℤ pos (2 ^ 63)

-- a text is the canonical decimal of a number within 64 bits exactly where it is what is written of it
abbrev pub CanonicalIntegerIsWritten : Type 0
CanonicalIntegerIsWritten = (t : Text) (n : ℤ) → (canonical_integer t ≡ Some n) ↔ (IsWithin64 n × (signed_decimal n ≡ t))

-- it is that of no number exactly where it is not what is written of any number within 64 bits
abbrev pub NoCanonicalInteger : Type 0
NoCanonicalInteger = (t : Text) → (canonical_integer t ≡ None) ↔ ((n : ℤ) → IsWithin64 n → signed_decimal n ≡ t → ⊥)
