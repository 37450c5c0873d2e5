use Rattle.std.proofs.Common.{◌∙◌, sym, rules}
use Rattle.std.proofs.lemmas.Iterator.{YieldsList-from_slice}
use Rattle.std.proofs.lemmas.Iterator.Search.{all_from_yields_List}
use Rattle.std.proofs.lemmas.List.Folds.{list_all-map}
use Rattle.semantics.specs.Patterns.{is_segment}
use Rattle.key_pattern.specs.Plain.{plain_segment}
use Rattle.key_pattern.proofs.pattern.are_segments.Goals as goal
use borrow.Author.Tests.{tests}

pub returns : goal.returns
returns c =
    all_from_yields_List (λ s. is_segment (plain_segment s)) _ _ c.all.result c.all.ensures.ran (YieldsList-from_slice c.args.segments.now cc) (λ x b q k. search (rules, tests))
    ∙ sym (list_all-map is_segment plain_segment c.args.segments.now)
