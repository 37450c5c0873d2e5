-- The request that items of an array are.
use Rattle.std.specs.Prelude.{ℕ, Option, None, option_map, Result}
use Rattle.serde_json.specs.Data.{Items}
use Rattle.semantics.specs.Texts.{Text}
use Rattle.protocol.specs.Requests.{Request, LineFault, with_text, last_item, texts_and_position, request_of_form}

-- the request that the items of an array are
abbrev pub request_of_items : Items → Result Request LineFault
request_of_items items = request_of_form (texts_and_position items)

-- the request that a word and a position behind it are, where there is one
abbrev pub request_of_numbered : Text → Option ℕ → Result Request LineFault
request_of_numbered word position = request_of_form (option_map (with_text word) (last_item None position))
