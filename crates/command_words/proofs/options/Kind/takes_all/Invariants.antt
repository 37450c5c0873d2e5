use Rattle.std.proofs.Common.{◌≡◌, length}
use Rattle.command_words.specs.Commands.{are_taken}
use Rattle.command_words.specs.Left.{left, options_of}
use Rattle.command_words.proofs.options.Kind.takes_all.Given as goal

abbrev pub invariant-loop-argument : goal.invariant-loop-argument
invariant-loop-argument l = are_taken (options_of l.self) (left l.fn.words) ≡ are_taken (options_of l.self) (left l.rest)

abbrev pub decreases-loop-argument : goal.decreases-loop-argument
decreases-loop-argument l = length l.rest.words.now
