-- The tokens that replies are written by.
use Rattle.std.specs.Prelude.{◌≡◌, List, ◌++◌}
use Rattle.std.specs.List.{flat_map}
use Rattle.json.specs.Token.{Token}
use Rattle.json.specs.Tree.{json_tokens}
use Rattle.json.specs.Written.{Written}
use Rattle.serde_json.specs.Data.{Data}
use Rattle.serde_json.specs.Written.{outline}

-- the tokens of an item
abbrev pub item_tokens : Data → List Token
item_tokens item = json_tokens (outline item)

-- those of several items, one after another
abbrev pub tokens_of_items : List Data → List Token
tokens_of_items = flat_map item_tokens

-- the items are written behind what was written before
pub record Appends (old new : Written) (items : List Data) : Type 0 where
  pub tokens : new.tokens ≡ old.tokens ++ tokens_of_items items
  pub before : new.before ≡ old.before
