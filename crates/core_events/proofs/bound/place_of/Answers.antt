use Rattle.std.proofs.Common.{◌∙◌, None, Err, lit<, sym, ap}
use Rattle.std.proofs.lemmas.Bool.{false≢true}
use Rattle.std.proofs.lemmas.Str.Pattern.{strip_suffix_char}
use Rattle.core_events.proofs.PlaceLemmas.{closes-other, bound_closes, bounds_itself}
use Rattle.core_events.proofs.bound.place_of.Goals as goal

pub unreachable-requires : goal.unreachable-requires
unreachable-requires c =
    let closes = bound_closes c.args.text.now c.requires (sym c.names_table.ensures ∙ c.if-not-names_table.true) in
    let other = closes-other c.args.text.now (strip_suffix_char 125 c.args.text.now None c.in-None.ensures.cases (lit< tt)) in
    false≢true (sym other ∙ closes)

pub unreachable-requires-in-Err-BadRange : goal.unreachable-requires-in-Err-BadRange
unreachable-requires-in-Err-BadRange c =
    let is = bounds_itself c.args.text.now c.requires (sym c.names_table.ensures ∙ c.if-not-names_table.false) in
    let bad = c.read.ensures.bad_range.0 (c.in-Err-BadRange.is ∙ ap Err c.in-Err-BadRange.field-0-is) in
    false≢true (sym bad ∙ is)
