use Rattle.std.proofs.Common.{◌≡◌, false, None, sym, ap, ◌∙◌}
use Rattle.std.specs.Prelude.{if◌then◌else◌}
use Rattle.std.proofs.lemmas.Str.{IsUtf8-from_is_utf8, is_utf8-from_IsUtf8}
use Rattle.std.specs.Str.{is_utf8}
use Rattle.std.proofs.lemmas.Bool.{false_from_ne_true}
use Rattle.serde_json.specs.Read.{read as read_json}
use Rattle.request_codec.proofs.reading.read_json.Goals as goal

pub returns-in_default-clause-fault : goal.returns-in_default-clause-fault
returns-in_default-clause-fault c =
    let no : is_utf8 c.args.line.now ≡ false = false_from_ne_true _ (λ e. c.in_default.ensures.cases.0 (IsUtf8-from_is_utf8 c.args.line.now e)) in
    ap (λ b. if b then read_json c.args.line.now else None) no

pub returns-in-Ok-from_str-clause-value : goal.returns-in-Ok-from_str-clause-value
returns-in-Ok-from_str-clause-value c =
    ap (λ b. if b then read_json c.args.line.now else None) (is_utf8-from_IsUtf8 c.args.line.now c.in-Ok.ensures.cases.1)
    ∙ ap read_json (sym c.in-Ok.ensures.cases.0) ∙ c.in-Ok-from_str.ensures.ok
