-- A text that is cut at the first of a byte.
use Rattle.std.specs.Prelude.{◌≡◌, ℕ, ◌==◌, ◌∷◌, ◌++◌, false, Option, Some, None}
use Rattle.std.specs.List.{list_any}
use Rattle.std.specs.Borrow.{Bor}
use Rattle.semantics.specs.Texts.{Text}

-- the first piece lacks the byte c, which stands between it and what is left, or else the piece is the whole text
abbrev pub IsCut : ℕ → Text → Text → Option (Bor Text) → Type 0
IsCut c text first None = (text ≡ first) × (list_any (λ b. b == c) first ≡ false)
IsCut c text first (Some rest) = (text ≡ first ++ c ∷ rest.now) × (list_any (λ b. b == c) first ≡ false)
