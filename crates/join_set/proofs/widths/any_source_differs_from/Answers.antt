use Rattle.std.proofs.Common.{◌∙◌, ◌++◌, rules}
use Rattle.std.specs.List.{list_any}
use Rattle.std.proofs.lemmas.Iterator.{YieldsList-from_slice}
use Rattle.std.proofs.lemmas.Iterator.Search.{any_from_yields_List}
use borrow.Author.Tests.{tests}
use Rattle.semantics.specs.Joins.{slots_of, source_slots_of}
use Rattle.join_set.specs.SlotTests.{differs_within}
use Rattle.join_set.proofs.SlotLemmas.{any_source_slots}
use Rattle.join_set.proofs.widths.any_source_differs_from.Goals as goal

pub returns : goal.returns
returns c =
    any_from_yields_List (λ s. list_any (differs_within (slots_of c.args.output.now ++ source_slots_of c.args.sources.now)) (slots_of s.pattern)) _ _ c.any.result c.any.ensures.ran (YieldsList-from_slice c.args.checked.now cc) (λ x b q k. search (rules, tests))
    ∙ any_source_slots (differs_within (slots_of c.args.output.now ++ source_slots_of c.args.sources.now)) c.args.checked.now
