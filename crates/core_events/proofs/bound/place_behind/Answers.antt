use Rattle.std.proofs.Common.{◌≡◌, ◌++◌, ◌∷◌, [], arith}
use Rattle.std.proofs.lemmas.Grind.{common_steps}
use Rattle.semantics.specs.Texts.{bar}
use Rattle.core_events.proofs.PlaceLemmas.{name_is_key}
use Rattle.core_events.proofs.bound.place_behind.Goals as goal

pub prefix_range-requires-clause-key : goal.prefix_range-requires-clause-key
prefix_range-requires-clause-key c =
    let whole : c.as_str.result.now ≡ c.args.name.now ++ bar ∷ [] = grind (arith, common_steps) in
    name_is_key c.as_str.result.now c.args.name.now whole c.requires.name c.requires.no_bar
