use Rattle.std.proofs.Common.{◌∙◌, rules}
use Rattle.std.specs.List.{list_any}
use Rattle.std.proofs.lemmas.Iterator.{YieldsList-from_slice}
use Rattle.std.proofs.lemmas.Iterator.Search.{any_from_yields_List}
use borrow.Author.Tests.{tests}
use Rattle.semantics.specs.Joins.{slots_of}
use Rattle.join_set.specs.SlotTests.{has_other_width}
use Rattle.join_set.proofs.SlotLemmas.{any_source_slots}
use Rattle.join_set.proofs.widths.sources_differ.Goals as goal

pub returns : goal.returns
returns c =
    any_from_yields_List (λ s. list_any (has_other_width (c.args.place, c.args.width)) (slots_of s.pattern)) _ _ c.any.result c.any.ensures.ran (YieldsList-from_slice c.args.sources.now cc) (λ x b q k. search (rules, tests))
    ∙ any_source_slots (has_other_width (c.args.place, c.args.width)) c.args.sources.now
