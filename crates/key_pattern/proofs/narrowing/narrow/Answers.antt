use Rattle.std.proofs.Common.{Some, None, sym, ap, ◌∙◌, subst, option_and_then}
use Rattle.std.specs.Option.{option_copied}
use Rattle.key_ranges.specs.Containing.{whole_beginning, narrowed_end}
use Rattle.key_pattern.specs.Plain.{plain_segments}
use Rattle.key_pattern.specs.Narrowing.{plain_slot, Narrows}
use Rattle.key_pattern.proofs.NarrowingLemmas.{width_of, width_none}
use Rattle.key_pattern.proofs.narrowing.narrow.Goals as goal

pub returns-in_err-slot : goal.returns-in_err-slot
returns-in_err-slot c =
    let source = plain_segments c.args.source.now in
    let output = plain_segments c.args.output.now in
    subst (Narrows source c.args.slots.now output c.args.range.now) (sym c.from_residual.ensures) (width_none source c.args.slots.now output c.args.range.now c.in_err-slot.ensures)

pub returns-in_err-rests : goal.returns-in_err-rests
returns-in_err-rests c =
    let source = plain_segments c.args.source.now in
    let output = plain_segments c.args.output.now in
    subst (Narrows source c.args.slots.now output c.args.range.now) (sym c.from_residual-in_err-rests.ensures)
    (width_of source c.args.slots.now output c.args.range.now (plain_slot c.in_ok-slot.slot) None c.in_ok-slot.ensures c.in_err-rests.ensures)

pub returns : goal.returns
returns c =
    let source = plain_segments c.args.source.now in
    let output = plain_segments c.args.output.now in
    let rests = c.in_ok-rests.ensures in
    let width = c.in_ok-slot.slot.width in
    record {
      ordered = rests.ordered;
      width = width;
      narrows = width_of source c.args.slots.now output c.args.range.now (plain_slot c.in_ok-slot.slot) (Some width) c.in_ok-slot.ensures rests.same;
      low = c.whole_beginning-low.ensures ∙ ap (λ n. whole_beginning n c.in_ok-rests.rests.low.now) c.from-width.ensures ∙ ap (whole_beginning width) rests.low;
      high = c.high_end-high.ensures ∙ ap (λ n. option_and_then (narrowed_end n) (option_copied c.in_ok-rests.rests.high)) c.from-width.ensures ∙ ap (option_and_then (narrowed_end width)) rests.high;
    }
