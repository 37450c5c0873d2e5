-- The line of the answer to a scan, and the pairs in it.
use Rattle.std.specs.Prelude.{◌≡◌, ℕ, ◌-◌, List, [], ◌∷◌, ◌++◌, codes, drop, length, map, take}
use Rattle.json.specs.Token as token
use Rattle.json.specs.Lex.{tokens}
use Rattle.json.specs.Written.{Written}
use Rattle.serde_json.specs.Data.{string}
use Rattle.semantics.specs.Texts.{Text, Table}
use Rattle.semantics.specs.Answers.{pairs}
use Rattle.protocol.specs.Replies.{answered, pair_item, reply_text}
use Rattle.protocol.specs.Rows.{whole_number}
use Rattle.request_codec.specs.Tokens.{tokens_of_items}

-- the tokens of the word and the number of an answer to a scan
abbrev pub head_tokens : ℕ → List token.Token
head_tokens position = tokens_of_items (string (codes "pairs") ∷ whole_number position ∷ [])

-- those of an answer to a scan so far: of its head, a bracket, and of its pairs
abbrev pub open_tokens : ℕ → Table → List token.Token
open_tokens position rows = (token.begin_array ∷ (head_tokens position ++ token.begin_array ∷ [])) ++ tokens_of_items (map pair_item rows)

-- these tokens are written behind what was written before
pub record Continues (old new : Written) (more : List token.Token) : Type 0 where
  pub before : new.before ≡ old.before
  pub tokens : new.tokens ≡ old.tokens ++ more

-- it holds nothing else than the answer after so many entries so far, with these pairs
pub record HasPairs (position : ℕ) (rows : Table) (w : Written) : Type 0 where
  pub before : w.before ≡ []
  pub tokens : w.tokens ≡ open_tokens position rows

-- the text of a string; there is none where it is no string
abbrev pub text_of : token.Token → Text
text_of token.begin_object = []
text_of token.end_object = []
text_of token.begin_array = []
text_of token.end_array = []
text_of (token.key t) = []
text_of (token.string t) = t
text_of (token.number t) = []
text_of (token.boolean b) = []
text_of token.null = []
text_of token.bad = []

-- of each four tokens the texts of the two in the middle
abbrev pub rows_in : List token.Token → Table
rows_in [] = []
rows_in (a ∷ []) = []
rows_in (a ∷ b ∷ []) = []
rows_in (a ∷ b ∷ c ∷ []) = []
rows_in (a ∷ b ∷ c ∷ d ∷ rest) = (text_of b, text_of c) ∷ rows_in rest

-- the pairs in the line of an answer to a scan: the four tokens before them are none, and the last byte ends the line
unfoldable pub pairs_of : Text → Table
pairs_of line = drop 1 (rows_in (tokens (take (length line - 1) line)))

-- an answer to a scan: after how many entries, and the pairs
pub record WrittenView : Type 0 where
  pub position : ℕ
  pub pairs : Table

-- the line is that of the answer with the pairs that are in it
abbrev pub IsLineOf : ℕ → Text → Type 0
IsLineOf position line = line ≡ reply_text (answered (pairs position (pairs_of line)))
