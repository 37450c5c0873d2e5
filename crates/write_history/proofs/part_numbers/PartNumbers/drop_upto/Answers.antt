use Rattle.std.proofs.Common.{◌≡◌, [], drop, nat_le, refl, sym, ap, ◌∙◌, ⊎_elim, arith}
use Rattle.std.specs.List.{count_by}
use Rattle.std.proofs.lemmas.Bool.{cases_lt}
use Rattle.write_history.specs.Numbers.{positions_of}
use Rattle.write_history.proofs.Numbering.{dropped_at}
use Rattle.write_history.proofs.part_numbers.PartNumbers.drop_upto.Goals as goal

pub loop-part-init : goal.loop-part-init
loop-part-init c = record {
  done = λ part less a. absurd (omega arith);
  left = λ part from. refl;
  none = λ some part past. absurd (omega arith);
}

pub loop-part-preserved : goal.loop-part-preserved
loop-part-preserved c =
    let all = c.args.self.now in
    let before = c.loop-part.self in
    let here = c.loop-part.part in
    let so_far = c.loop-part.invariant in
    record {
      done = λ part less a.
          ⊎_elim (λ early. c.drop_in.ensures.others part (omega arith) ∙ so_far.done part early a)
          (λ late. let same : part ≡ here = omega arith in dropped_at all before c.drop_in.new.self part here c.args.position same (so_far.left here (omega arith)) c.drop_in.ensures.own a) (cases_lt part here);
      left = λ part from. c.drop_in.ensures.others part (omega arith) ∙ so_far.left part (omega arith);
      none = λ some part past. c.drop_in.ensures.none part past;
    }

pub returns : goal.returns
returns c = λ part a.
    let so_far = c.loop-part.invariant in
    ⊎_elim (λ early. so_far.done part (omega arith) a)
    (λ late.
    let none : positions_of part c.loop-part.self ≡ [] = so_far.none (omega arith) part late in
    let same : positions_of part c.loop-part.self ≡ positions_of part c.args.self.now = so_far.left part (omega arith) in
    none ∙ ap (λ ps. drop (count_by (λ n. nat_le n c.args.position) ps) ps) (sym none ∙ same)) (cases_lt part 16)
