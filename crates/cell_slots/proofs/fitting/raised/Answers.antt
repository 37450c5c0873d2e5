use Rattle.std.proofs.Common.{[], ◌∷◌, ◌++◌, sym, ap, ◌∙◌, subst, arith}
use Rattle.std.proofs.lemmas.Result.{IfOk-weaker}
use Rattle.key_ranges.specs.Ranges.{is_below}
use Rattle.key_pattern.specs.Plain.{plain_segments}
use Rattle.cell_slots.specs.Gaps.{SplitAlike}
use Rattle.cell_slots.proofs.fitting.raised.Goals as goal

pub returns-in-None : goal.returns-in-None
returns-in-None c = IfOk-weaker c.copied.result _ _ (λ text e key fit. ap (is_below key) (sym e)) c.copied.ensures

pub followed-requires : goal.followed-requires
followed-requires c = omega (arith, c.from.ensures, c.in-Some.ensures.0)

pub returns-in-Some : goal.returns-in-Some
returns-in-Some c = IfOk-weaker c.followed.result _ _ (λ text e.
    subst (SplitAlike (plain_segments c.args.output.now) c.args.bound.now) (sym (e ∙ ap (λ b. c.in-Some.next.front.now ++ b ∷ []) c.from.ensures)) c.in-Some.ensures.1) c.followed.ensures
