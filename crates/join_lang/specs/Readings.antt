-- What a call says that reads a part of a join's text.
use Rattle.std.specs.Prelude.{◌≡◌, ℕ, List, [], ◌∷◌, length, filter, nat_le, Option, Some, None}
use Rattle.semantics.specs.Texts.{Text}
use Rattle.semantics.specs.Patterns.{pieces}
use Rattle.protocol.specs.JoinText.{Token, placed}

-- the tokens of what is left of a text, which begins at an offset
unfoldable pub tokens_from : ℕ → Text → List Token
tokens_from at rest = filter (λ token. nat_le 1 (length token.text)) (placed at (pieces 32 rest))

-- the tokens with a piece before them, which is a token unless it is empty
abbrev pub with_word : ℕ → Text → List Token → List Token
with_word at [] ts = ts
with_word at (b ∷ bs) ts = record { at = at; text = b ∷ bs } ∷ ts

-- what is found, and the names after it, are what the definition gives; none is found where it gives none
abbrev pub Finds : {A : Type 0} → Option (A × List Text) → Option A → List Text → Type 0
Finds given None names = given ≡ None
Finds given (Some found) names = given ≡ Some (found, names)
