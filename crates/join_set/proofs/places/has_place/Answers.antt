use Rattle.std.proofs.Common.{◌∙◌, ◌==◌, rules}
use Rattle.std.proofs.lemmas.Iterator.{YieldsList-from_slice}
use Rattle.std.proofs.lemmas.Iterator.Search.{any_from_yields_List}
use borrow.Author.Tests.{tests}
use Rattle.key_pattern.specs.Plain.{plain_segment}
use Rattle.join_set.specs.SlotTests.{is_slot_with}
use Rattle.join_set.proofs.SlotLemmas.{any_slots}
use Rattle.join_set.proofs.places.has_place.Goals as goal

pub returns : goal.returns
returns c =
    any_from_yields_List (λ s. is_slot_with (λ slot. slot.0 == c.args.place) (plain_segment s)) _ _ c.any.result c.any.ensures.ran (YieldsList-from_slice c.segments.result.now cc) (λ x b q k. search (rules, tests))
    ∙ any_slots (λ slot. slot.0 == c.args.place) c.segments.result.now c.args.pattern.now c.segments.ensures.segments
