use Rattle.std.proofs.Common.{◌≡◌, Err, false, sym, ap, ◌∙◌, subst}
use Rattle.std.specs.String.{string_bytes}
use Rattle.semantics.specs.Texts.{is_key}
use Rattle.semantics.specs.Patterns.{fill}
use Rattle.key_pattern.specs.Plain.{plain_segments}
use Rattle.key_pattern.specs.Pieces.{Joins}
use Rattle.key_pattern.proofs.FillLemmas.{filled_none}
use Rattle.key_pattern.proofs.pattern.Pattern.fill.Goals as goal

pub returns-in-Err-BadKey : goal.returns-in-Err-BadKey
returns-in-Err-BadKey c =
    let joins = subst (λ v. Joins (plain_segments v) c.args.slots.now (string_bytes c.in_ok-text.text)) c.as_slice.ensures.value c.in_ok-text.ensures in
    let none : is_key (string_bytes c.in_ok-text.text) ≡ false = ap is_key (sym c.as_str.ensures.value) ∙ c.in-Err-BadKey.ensures.bad_key.0 (ap Err c.in-Err-BadKey.field-0-is) in
    sym (ap (λ p. fill p c.args.slots.now) (sym c.self.view_is)
    ∙ filled_none (plain_segments c.self.inside.segments.items) c.args.slots.now (string_bytes c.in_ok-text.text) c.self.invariant joins none)
