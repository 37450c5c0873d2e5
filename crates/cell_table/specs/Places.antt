-- Where kept ranges have their places.
use Rattle.std.specs.Prelude.{◌≡◌, ℕ, List, [], unwrap_or}
use Rattle.std.specs.Ordering.{nat_cmp}
use Rattle.std.specs.BTreeMap.{is_at}
use Rattle.std.specs.Map.{lookup}
use Rattle.range_set.specs.Held.{Held as Ranges, without_range}
use Rattle.cell_slots.specs.declared.slot.Slot.{Slot}
use Rattle.cell_slots.specs.declared.slot.Slot.TheVariants.{Free, Lent, Held}
use Rattle.cell_slots.specs.Places.{ListsInstead, ListsTheSame}

-- at the position of a join's declaration, the ranges of its output that have a cell, each with the cell's number
abbrev pub Places : Type 0
Places = List (ℕ × Ranges ℕ)

-- those of the join that was declared at a position
abbrev pub held_at : Places → ℕ → Ranges ℕ
held_at places at = unwrap_or (lookup (is_at (nat_cmp at)) places) []

-- at one position stand other ranges, and at each other what stood there
abbrev pub Replaces : ℕ → Ranges ℕ → Places → Places → Type 0
Replaces at held old new = ListsInstead at held (held_at old) (held_at new)

-- at each position stands what stood there
abbrev pub KeepsAll : Places → Places → Type 0
KeepsAll old new = ListsTheSame (held_at old) (held_at new)

-- the place of the kept range that a slot held is taken out, if it held one
abbrev pub LeavesPlace : Slot → Places → Places → Type 0
LeavesPlace Free old new = new ≡ old
LeavesPlace (Lent at range) old new = new ≡ old
LeavesPlace (Held at s) old new = Replaces at (without_range s.range (held_at old at)) old new
