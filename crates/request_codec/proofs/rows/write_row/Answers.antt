use Rattle.std.proofs.Common.{◌≡◌, ◌∷◌, ◌++◌, [], ◌∙◌, ap, map}
use Rattle.std.specs.Prelude.{string_bytes}
use Rattle.serde_json.specs.View.{view}
use Rattle.serde_json.specs.Written.{has_float, compact_text}
use Rattle.protocol.specs.Rows.{list_of}
use Rattle.request_codec.proofs.rows.write_row.Goals as goal

pub returns : goal.returns
returns c =
    let shape : view c.list_value-array.result ≡ list_of (map view c.args.items.items) = c.list_value-array.ensures in
    let text = c.in_ok-to_string.ensures.text (ap has_float shape ∙ c.requires) in
    let bytes : c.into_bytes-line.result.items ≡ string_bytes c.in_ok-to_string.field-0 = ap (λ v. v.items) c.into_bytes-line.ensures.value in
    c.in_ok-push.ensures.items ∙ ap (λ t. t ++ 10 ∷ []) (bytes ∙ text ∙ ap compact_text shape)
