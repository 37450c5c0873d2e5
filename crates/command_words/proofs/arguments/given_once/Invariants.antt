use Rattle.std.proofs.Common.{◌≡◌, ◌++◌, length}
use Rattle.std.specs.Prelude.{filter_map, option_map, option_to_list}
use Rattle.command_words.specs.Arguments.{given_by}
use Rattle.command_words.specs.Plain.{plain_wanted}
use Rattle.command_words.specs.Left.{left}
use Rattle.command_words.proofs.arguments.given_once.Given as goal

abbrev pub invariant-loop-argument : goal.invariant-loop-argument
invariant-loop-argument l =
    filter_map (given_by (plain_wanted l.wanted)) (left l.fn.words)
    ≡ option_to_list (option_map (λ text. text.now) l.found) ++ filter_map (given_by (plain_wanted l.wanted)) (left l.rest)

abbrev pub decreases-loop-argument : goal.decreases-loop-argument
decreases-loop-argument l = length l.rest.words.now
