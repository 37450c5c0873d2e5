use Rattle.std.proofs.Common.{Some, sym, ◌∙◌, lit<}
use Rattle.std.proofs.lemmas.Str.Pattern.{strip_suffix_char}
use Rattle.key_pattern.specs.Plain.{plain_segments}
use Rattle.cell_slots.proofs.FittingLemmas.{bar_left_off}
use Rattle.cell_slots.proofs.fitting.before_bar.Goals as goal

pub returns : goal.returns
returns c =
    bar_left_off (plain_segments c.args.output.now) c.args.bound.now c.in_ok-text.text.now c.in_ok-slot.slot (strip_suffix_char 124 c.args.bound.now (Some c.in_ok-text.text) c.in_ok-text.ensures.cases (lit< tt))
    c.in_ok-slot.ensures (sym c.is_whole.ensures ∙ c.if-not-is_whole.false)
