-- The pieces of a range that is asked for.
use Rattle.std.specs.Prelude.{◌≡◌, List, [], ◌∷◌, map, filter, Bool, true, false}
use Rattle.std.specs.List.{Contains}
use Rattle.semantics.specs.Texts.{Range}
use Rattle.key_ranges.specs.Ranges.{meets, common}
use Rattle.range_set.specs.Joined.{LiesIn}
use Rattle.range_set.specs.Held.{Held}
use Rattle.range_set.specs.declared.piece.Piece.{Piece}
use Rattle.range_set.specs.declared.piece.Piece.TheVariants.{Kept, Gap}

-- the range of a piece
abbrev pub range_of : {T : Type 0} → Piece T → Range
range_of (Kept r item) = r
range_of (Gap r) = r

-- the ranges of pieces
abbrev pub ranges_of : {T : Type 0} → List (Piece T) → List Range
ranges_of ps = map range_of ps

-- the kept pieces with their items, in order
abbrev pub kept_of : {T : Type 0} → List (Piece T) → Held T
kept_of [] = []
kept_of (Kept r item ∷ ps) = (r, item) ∷ kept_of ps
kept_of (Gap r ∷ ps) = kept_of ps

-- the gaps, in order
abbrev pub gaps_of : {T : Type 0} → List (Piece T) → List Range
gaps_of [] = []
gaps_of (Kept r item ∷ ps) = gaps_of ps
gaps_of (Gap r ∷ ps) = r ∷ gaps_of ps

-- whether no gap follows a gap
abbrev pub are_gaps_apart : {T : Type 0} → List (Piece T) → Bool
are_gaps_apart [] = true
are_gaps_apart (Gap r ∷ Gap s ∷ ps) = false
are_gaps_apart (p ∷ ps) = are_gaps_apart ps

-- what a range has in common with each kept one that it meets, and the items of these, in order
abbrev pub parts_within : {T : Type 0} → Range → Held T → Held T
parts_within range held = map (λ e. (common e.0 range, e.1)) (filter (λ e. meets e.0 range) held)

-- ---- a law

-- the part is what a range has in common with a kept one that it meets; it lies in that one, and has its item
pub record IsPartOf {T : Type 0} (range : Range) (held : Held T) (part : Range × T) : Type 0 where
  pub whole : Range
  pub kept : Contains held (whole, part.1)
  pub meets_range : meets whole range ≡ true
  pub common_part : part.0 ≡ common whole range
  pub lies : LiesIn whole part.0

-- each part lies in the kept range of its item
abbrev pub PartsLieInKept : Type 0 → Type 0
PartsLieInKept T = (range : Range) (held : Held T) (part : Range × T) → Contains (parts_within range held) part → IsPartOf range held part
