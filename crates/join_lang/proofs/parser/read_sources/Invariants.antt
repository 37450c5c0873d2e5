use Rattle.std.proofs.Common.{◌≡◌, length}
use Rattle.protocol.specs.JoinText.{read_sources}
use Rattle.join_lang.specs.Words.{tokens_of}
use Rattle.join_lang.proofs.SourceLemmas.{behind_sources}
use Rattle.join_lang.proofs.parser.read_sources.Given as goal

abbrev pub invariant-loop-next : goal.invariant-loop-next
invariant-loop-next l =
    read_sources l.fn.end l.fn.names (tokens_of l.fn.first l.fn.tokens) ≡ behind_sources l.sources.items (read_sources l.end l.names (tokens_of l.next l.tokens))

abbrev pub decreases-loop-next : goal.decreases-loop-next
decreases-loop-next l = length (tokens_of l.next l.tokens)
