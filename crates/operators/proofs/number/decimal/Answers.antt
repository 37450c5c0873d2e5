use Rattle.std.proofs.Common.{Err, sym, ap, ◌∙◌}
use Rattle.std.specs.Fmt.{signed_decimal}
use Rattle.std.proofs.lemmas.Bool.{false≢true}
use Rattle.std.proofs.lemmas.Int.{to_z-of_z}
use Rattle.semantics.specs.Texts.{is_value}
use Rattle.operators.proofs.NumberLemmas.{decimal_is_value}
use Rattle.operators.proofs.number.decimal.Goals as goal

pub unreachable-requires : goal.unreachable-requires
unreachable-requires c =
    let h = c.in-Err-BadValue.ensures in
    let text = c.as_str.ensures.value ∙ c.in_ok-text.ensures.ok ∙ ap signed_decimal (to_z-of_z _ c.args.number c.ranges.number) in
    false≢true (sym (h.bad_value.0 (ap (λ e. Err e) c.in-Err-BadValue.field-0-is)) ∙ ap is_value text ∙ decimal_is_value c.args.number c.ranges.number.sfits)
