-- What changed in a table, as it is kept at hand.
use Rattle.std.specs.Prelude.{◌≡◌, ℕ, List, Option, IfSome}
use Rattle.semantics.specs.Texts.{Range}
use Rattle.semantics.specs.Histories.{History}
use Rattle.growing_history.specs.StateChanges.{Change}
use Rattle.base_versions.specs.Valued.{base_changes}
use Rattle.layering.specs.Parts.{IsWithin}

-- keys that the entries after the first q put or remove, up to the p-th, in a table, with what stands there
pub record KnownView : Type 0 where
  pub q : ℕ
  pub p : ℕ
  pub table : Range
  pub changes : List Change

-- they are those of a history
abbrev pub IsKnownIn : KnownView → History → Type 0
IsKnownIn known h = known.changes ≡ base_changes known.q known.p known.table h

-- and so are those that are known, if any are
abbrev pub AreKnownIn : Option KnownView → History → Type 0
AreKnownIn known h = IfSome known (λ k. IsKnownIn k h)

-- they are of these entries, and of a table in which the range lies
pub record Covers (known : KnownView) (q p : ℕ) (range : Range) : Type 0 where
  pub same_q : q ≡ known.q
  pub same_p : p ≡ known.p
  pub inside : IsWithin range known.table
