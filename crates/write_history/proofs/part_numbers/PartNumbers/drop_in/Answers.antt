use Rattle.std.proofs.Common.{◌<◌, length, length-set, set, drop, nat_le, sym, ap, ◌∙◌, subst, arith}
use Rattle.std.specs.List.{count_by}
use Rattle.base_versions.specs.Positions.{AscendBy}
use Rattle.write_history.specs.Numbers.{Numbers, positions_of}
use Rattle.write_history.proofs.Numbering.{no_numbers, set_drops, set_leaves}
use Rattle.write_history.proofs.part_numbers.PartNumbers.drop_in.Goals as goal

pub returns-clause-own : goal.returns-clause-own
returns-clause-own c = λ a.
    let parts = c.self.inside.parts.items in
    let part = c.args.part in
    let position = c.args.position in
    let less : part < length parts = omega (arith, c.requires, c.self.invariant) in
    let ascends = subst (λ ns. AscendBy (λ n. n) 0 (positions_of part ns)) (sym c.self.view_is) a in
    set_drops parts part position c.index_mut.result.now c.drop_upto.new.self less c.index_mut.ensures.value c.drop_upto.ensures ascends
    ∙ ap (λ ns. drop (count_by (λ n. nat_le n position) (positions_of part ns)) (positions_of part ns)) c.self.view_is

pub returns-clause-others : goal.returns-clause-others
returns-clause-others c = λ other apart. set_leaves c.self.inside.parts.items c.args.part c.drop_upto.new.self other apart ∙ ap (positions_of other) c.self.view_is

pub returns-clause-none : goal.returns-clause-none
returns-clause-none c = λ other past.
    let parts = c.self.inside.parts.items in
    ap (λ (n : Numbers). n.positions) (no_numbers (set parts c.args.part c.drop_upto.new.self) other (omega (arith, past, c.self.invariant, length-set parts c.args.part c.drop_upto.new.self)))
