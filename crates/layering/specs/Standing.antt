-- Where joins stand in a history, and what stays between two positions.
use Rattle.std.specs.Prelude.{◌≡◌, ℕ, ◌≤◌, ◌==◌, List, find, take, Option}
use Rattle.semantics.specs.Texts.{Text, value_at}
use Rattle.semantics.specs.Joins.{Join}
use Rattle.semantics.specs.Histories.{History, DeclaredJoin, joins_of}
use Rattle.semantics.specs.Outputs.{out}
use Rattle.semantics.specs.States.{below}

-- the join that was declared at a position, if there is one
abbrev pub declared_at : ℕ → List DeclaredJoin → Option DeclaredJoin
declared_at position joins = find (λ s. s.position == position) joins

-- the same joins stand after each number of entries from q to p
abbrev pub JoinsStay : History → ℕ → ℕ → Type 0
JoinsStay h q p = (x : ℕ) → q ≤ x → x ≤ p → joins_of (take x h) ≡ joins_of (take q h)

-- at a key a join makes the same of what stands below a rank at all positions from q to p
abbrev pub SameOutput : History → ℕ → ℕ → ℕ → Text → Join → Type 0
SameOutput h q p r key j = (x : ℕ) → q ≤ x → x ≤ p → value_at key (out j (below (take x h) r)) ≡ value_at key (out j (below (take q h) r))
