use Rattle.std.proofs.Common.{◌∙◌, rules}
use Rattle.std.proofs.lemmas.Iterator.{YieldsList-from_slice}
use Rattle.std.proofs.lemmas.Iterator.Search.{all_from_yields_List}
use borrow.Author.Tests.{tests}
use Rattle.key_pattern.specs.Plain.{plain_segment}
use Rattle.semantics.specs.Joins.{occurs, slots_of}
use Rattle.join_set.specs.SlotTests.{is_no_slot_without}
use Rattle.join_set.proofs.SlotLemmas.{all_slots}
use Rattle.join_set.proofs.places.occur_in_output.Goals as goal

pub returns : goal.returns
returns c =
    all_from_yields_List (λ s. is_no_slot_without (λ slot. occurs slot.0 (slots_of c.args.output.now)) (plain_segment s)) _ _ c.all.result c.all.ensures.ran (YieldsList-from_slice c.segments.result.now cc) (λ x b q k. search (rules, tests))
    ∙ all_slots (λ slot. occurs slot.0 (slots_of c.args.output.now)) c.segments.result.now c.args.pattern.now c.segments.ensures.segments
