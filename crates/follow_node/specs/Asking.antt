-- What a feeder asks.
use Rattle.std.specs.Prelude.{ℕ, [], ◌∷◌, codes}
use Rattle.serde_json.specs.Data.{string}
use Rattle.semantics.specs.Texts.{Text}
use Rattle.protocol.specs.Rows.{whole_number, row}

-- the line that asks for the entries after so many
unfoldable pub feed_text : ℕ → Text
feed_text n = row (string (codes "feed") ∷ whole_number n ∷ [])
