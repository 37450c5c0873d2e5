-- Which bounds and ranges are alike for the keys that fit an output.
use Rattle.std.specs.Prelude.{◌≡◌, ℕ, ◌≤◌, ◌||◌, ◌&&◌, ◌==◌, not, [], ◌∷◌, ◌++◌, length, nat_le, nat_lt, if◌then◌else◌, Bool, true, false, Option, Some, None}
use Rattle.semantics.specs.Texts.{Text, bar, Range, Table, within, pairs_within}
use Rattle.semantics.specs.Patterns.{Segment, literal, slot, Pattern, fits}
use Rattle.semantics.specs.Joins.{Join}
use Rattle.semantics.specs.Outputs.{out}
use Rattle.key_ranges.specs.Ranges.{is_below}
use Rattle.cell_slots.specs.declared.slots.OpenSlot.{OpenSlot}

-- of the keys that fit an output the same ones are below two texts
abbrev pub SplitAlike : Pattern → Text → Text → Type 0
SplitAlike output t u = (key : Text) → fits output key ≡ true → is_below key t ≡ is_below key u

-- of the keys that fit an output the same ones lie in two ranges
abbrev pub HoldSameFitting : Pattern → Range → Range → Type 0
HoldSameFitting output r s = (key : Text) → fits output key ≡ true → within s key ≡ within r key

-- a join gives the same in two ranges, whatever the table
abbrev pub GiveSame : Join → Range → Range → Type 0
GiveSame j r s = (table : Table) → pairs_within s (out j table) ≡ pairs_within r (out j table)

-- ---- the slot at which a bound ends

-- what follows a whole text of a slot in a key: nothing where the slot is the last segment, and otherwise `|` and more
abbrev pub FollowsSlot : Bool → Text → Type 0
FollowsSlot true more = more ≡ []
FollowsSlot false more = (rest : Text) × (more ≡ bar ∷ rest)

-- whether a text that begins with a byte is above all that follows a whole text of a slot in a key
abbrev pub is_above : Bool → ℕ → Bool
is_above is_last first = is_last || nat_lt bar first

-- whether a rest is a whole text of a slot of a width, which another segment follows
abbrev pub is_whole : Bool → Text → ℕ → Bool
is_whole is_last rest width = not is_last && (length rest == width)

-- the width of a slot that has one
abbrev pub fixed_width : Segment → Option ℕ
fixed_width (literal l) = None
fixed_width (slot place width) = if nat_le 1 width then Some width else None

-- whether no segment is left
abbrev pub is_none_left : Pattern → Bool
is_none_left [] = true
is_none_left (s ∷ ss) = false

-- a bound ends at a segment with a rest: the segment is a slot of fixed width
pub record IsOpenAt (s : Segment) (is_last : Bool) (rest : Text) (end : OpenSlot) : Type 0 where
  pub width : fixed_width s ≡ Some end.width
  pub same_rest : end.rest.now ≡ rest
  pub same_last : end.is_last ≡ is_last

-- a bound ends at a slot of an output with a rest: a key that fits the output and begins with what is before the rest and a text of the slot's width goes on as behind a whole text of the slot
pub record LeavesOpen (output : Pattern) (bound : Text) (end : OpenSlot) : Type 0 where
  pub before : Text
  pub is : bound ≡ before ++ end.rest.now
  pub some : 1 ≤ end.width
  pub follows : (key u more : Text) → fits output key ≡ true → key ≡ before ++ (u ++ more) → length u ≡ end.width → FollowsSlot end.is_last more
