use Rattle.std.proofs.Common.{◌<◌, ◌≤◌, length, get_or, nat_le, sym, ap, ◌∙◌, subst, arith}
use Rattle.std.specs.List.{count_by}
use Rattle.base_versions.specs.Positions.{AscendBy}
use Rattle.write_history.specs.Numbers.{Numbers, numbers_of}
use Rattle.write_history.proofs.Numbering.{own_numbers, no_numbers}
use Rattle.write_history.proofs.part_numbers.PartNumbers.count_upto.Goals as goal

pub returns-in-None : goal.returns-in-None
returns-in-None c = λ a.
    let parts = c.self.inside.parts.items in
    let part = c.args.part in
    let past : length parts ≤ part = omega (arith, c.in-None.ensures.lookup.3, ap length c.deref.ensures.value) in
    ap (λ (n : Numbers). count_by (λ m. nat_le m c.args.position) n.positions) (sym (no_numbers parts part past) ∙ ap (numbers_of part) c.self.view_is)

pub returns-in-Some : goal.returns-in-Some
returns-in-Some c = λ a.
    let parts = c.self.inside.parts.items in
    let part = c.args.part in
    let x = c.in-Some.positions.now in
    let less : part < length parts = omega (arith, c.in-Some.ensures.lookup.3.0, ap length c.deref.ensures.value) in
    let own = own_numbers parts part x less (c.in-Some.ensures.lookup.1 ∙ ap (λ ps. get_or ps part x) c.deref.ensures.value) ∙ ap (numbers_of part) c.self.view_is in
    c.count_upto.ensures (subst (λ (n : Numbers). AscendBy (λ m. m) 0 n.positions) (sym own) a) ∙ ap (λ (n : Numbers). count_by (λ m. nat_le m c.args.position) n.positions) own
