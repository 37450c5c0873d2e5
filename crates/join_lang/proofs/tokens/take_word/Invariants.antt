use Rattle.std.proofs.Common.{◌≡◌, ◌+◌, ◌≤◌, length}
use denote.Text.{Utf8}
use denote.Shadow.{shadow}
use Rattle.join_lang.specs.Readings.{tokens_from}
use Rattle.join_lang.proofs.tokens.take_word.Given as goal

abbrev pub invariant-loop-rest : goal.invariant-loop-rest
invariant-loop-rest l =
    shadow (Utf8 l.rest) × (tokens_from l.fn.at l.fn.text ≡ tokens_from l.offset l.rest) × (l.offset + length l.rest ≤ 4096)

abbrev pub decreases-loop-rest : goal.decreases-loop-rest
decreases-loop-rest l = length l.rest
