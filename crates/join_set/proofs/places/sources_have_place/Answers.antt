use Rattle.std.proofs.Common.{◌∙◌, ◌==◌, rules}
use Rattle.std.proofs.lemmas.Iterator.{YieldsList-from_slice}
use Rattle.std.proofs.lemmas.Iterator.Search.{any_from_yields_List}
use borrow.Author.Tests.{tests}
use Rattle.semantics.specs.Joins.{occurs, slots_of}
use Rattle.join_set.proofs.SlotLemmas.{any_source_slots}
use Rattle.join_set.proofs.places.sources_have_place.Goals as goal

pub returns : goal.returns
returns c =
    any_from_yields_List (λ s. occurs c.args.place (slots_of s.pattern)) _ _ c.any.result c.any.ensures.ran (YieldsList-from_slice c.args.sources.now cc) (λ x b q k. search (rules, tests))
    ∙ any_source_slots (λ slot. slot.0 == c.args.place) c.args.sources.now
