-- Kept ranges by the texts of their first bounds.
use Rattle.std.specs.Prelude.{◌≡◌, List, map, true}
use Rattle.std.specs.List.{AllByRecursion}
use Rattle.semantics.specs.Texts.{Text, Range}
use Rattle.range_set.specs.Held.{Held, are_apart, are_of_one_table}

-- ranges with their items, each at a name
abbrev pub Stored : Type 0 → Type 0 → Type 0
Stored K T = List (K × (Range × T))

-- the ranges with their items alone
abbrev pub held_of : {K T : Type 0} → Stored K T → Held T
held_of stored = map (λ e. e.1) stored

-- each range stands at the text of its first bound; they are apart, and of one table
pub record AreStored {K T : Type 0} (text_of : K → Text) (stored : Stored K T) : Type 0 where
  pub own : AllByRecursion (λ e. text_of e.0 ≡ e.1.0.low) stored
  pub apart : are_apart (held_of stored) ≡ true
  pub table : are_of_one_table (held_of stored) ≡ true
