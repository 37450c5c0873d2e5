use Rattle.std.proofs.Common.{◌≡◌, ◌<◌, ◌≤◌, sym, ap, ◌∙◌, arith}
use Rattle.write_history.specs.Marks.{pins, allowed}
use Rattle.write_history.proofs.Marking.{before_is, allowed_pin, allowed_note}
use Rattle.write_history.proofs.turn.bound_of.Goals as goal

pub returns-then-number-pin_words : goal.returns-then-number-pin_words
returns-then-number-pin_words c = λ kinds same.
    let less : c.args.number < pins kinds = omega arith in
    c.saturating_sub.ensures ∙ sym (before_is c.args.word) ∙ sym (allowed_pin kinds c.args.number c.args.word less)

pub returns : goal.returns
returns c = λ kinds same.
    let past : pins kinds ≤ c.args.number = omega arith in
    sym (allowed_note kinds c.args.number c.args.word past)
