use Rattle.std.proofs.Common.{◌<◌, length, get_or, sym, ap, ◌∙◌, subst, arith}
use Rattle.write_history.specs.Numbers.{Numbers, positions_of, numbers_of}
use Rattle.write_history.proofs.Numbering.{own_numbers, within_parts}
use Rattle.write_history.proofs.part_numbers.PartNumbers.get.Goals as goal

pub index-requires : goal.index-requires
index-requires c =
    let parts = c.self.inside.parts.items in
    let there = subst (λ ns. c.args.place < length (positions_of c.args.part ns)) (sym c.self.view_is) c.requires in
    omega (arith, within_parts parts c.args.part c.args.place there)

pub get-requires : goal.get-requires
get-requires c =
    let parts = c.self.inside.parts.items in
    let part = c.args.part in
    let there = subst (λ ns. c.args.place < length (positions_of part ns)) (sym c.self.view_is) c.requires in
    let own = own_numbers parts part c.index.result.now (within_parts parts part c.args.place there) c.index.ensures in
    subst (λ (n : Numbers). c.args.place < length n.positions) (sym own) there

pub returns : goal.returns
returns c =
    let parts = c.self.inside.parts.items in
    let part = c.args.part in
    let there = subst (λ ns. c.args.place < length (positions_of part ns)) (sym c.self.view_is) c.requires in
    let own = own_numbers parts part c.index.result.now (within_parts parts part c.args.place there) c.index.ensures in
    c.get.ensures ∙ ap (λ (n : Numbers). get_or n.positions c.args.place c.get.result) (own ∙ ap (numbers_of part) c.self.view_is)
