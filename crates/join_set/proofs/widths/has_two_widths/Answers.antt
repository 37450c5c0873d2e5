use Rattle.std.proofs.Common.{◌∙◌, ◌++◌, sym}
use Rattle.semantics.specs.Joins.{slots_of, source_slots_of}
use Rattle.join_set.specs.SlotTests.{differs_within}
use Rattle.join_set.proofs.SlotLemmas.{any_later}
use Rattle.join_set.proofs.widths.has_two_widths.Goals as goal

pub returns-else-any_differs_from : goal.returns-else-any_differs_from
returns-else-any_differs_from c =
    any_later (differs_within (slots_of c.args.output.now ++ source_slots_of c.args.sources.now)) (slots_of c.args.output.now) (source_slots_of c.args.sources.now) c.any_source_differs_from.result
    (sym c.any_differs_from.ensures ∙ c.if-any_differs_from.false) c.any_source_differs_from.ensures
