-- Words of a text as the tokens that the definitions speak of.
use Rattle.std.specs.Prelude.{List, [], ◌∷◌, Option, Some, None}
use Rattle.protocol.specs.JoinText.{Token}
use Rattle.join_lang.specs.declared.tokens.Word.{Word}

-- a word with its text as a list of bytes
abbrev pub plain_word : Word → Token
plain_word w = record { at = w.at; text = w.text.now }

-- the tokens that begin with a word that was taken; there are none where no word came
abbrev pub tokens_of : Option Word → List Token → List Token
tokens_of None ts = []
tokens_of (Some w) ts = plain_word w ∷ ts
