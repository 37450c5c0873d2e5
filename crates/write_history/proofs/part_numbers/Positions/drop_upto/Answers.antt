use Rattle.std.proofs.Common.{◌≡◌, drop, ap, ◌∙◌, arith}
use Rattle.std.proofs.lemmas.List.{drop-drop}
use Rattle.write_history.proofs.part_numbers.Positions.drop_upto.Goals as goal

pub loop-number-preserved : goal.loop-number-preserved
loop-number-preserved c = c.pop_front.ensures.rest ∙ ap (drop 1) c.loop-number.invariant ∙ drop-drop 1 c.loop-number._number c.args.self.now.positions

pub returns : goal.returns
returns c = λ a.
    let end : c.loop-number._number ≡ c.count_upto-number-end.result = omega arith in
    c.loop-number.invariant ∙ ap (λ n. drop n c.args.self.now.positions) (end ∙ c.count_upto-number-end.ensures a)
